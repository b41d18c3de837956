use Rattle.oil_reader.specs.Trees.{objects_of, object_of}
use Rattle.std.proofs.Common.{take}
use Rattle.oil_reader.proofs.Keys.{keys_more, stood_is, object_more}
use Rattle.oil_reader.proofs.object_faults.second_fault.Goals as goal

pub loop-object-preserved : goal.loop-object-preserved
loop-object-preserved c =
    let xs = c.args.objects.now in
    let i = c.loop-object.object-index in
    let d = c.object-item.result in
    let keys = c.loop-object.invariant.keys in
    record {
      keys = keys_more c.loop-object.seen c.insert.new.self c.key_of.result xs i d c.loop-object-test.true c.object-item.is keys c.key_of.ensures.kind c.key_of.ensures.name c.in_ok-is_new.ensures.updates.0;
      same = object_more xs i d c.loop-object.found c.twice-found.result _ c.in_ok-is_new.is_new _ c.loop-object-test.true c.object-item.is c.in_ok-is_new.ensures.added
          (stood_is c.loop-object.seen c.key_of.result (objects_of (take i xs)) (object_of d) keys c.key_of.ensures.kind c.key_of.ensures.name) c.twice-found.ensures c.loop-object.invariant.same;
    }
