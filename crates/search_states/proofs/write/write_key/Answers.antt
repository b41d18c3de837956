use Rattle.std.proofs.Common.{◌∙◌}
use Rattle.kernel.specs.Machine.{next_tick, picture, system_of}
use Rattle.search_needs.specs.Table.{need_of}
use Rattle.services.specs.CompactQueues.{tasks_at}
use Rattle.search_states.proofs.PictureLemmas.{key_written}
use Rattle.search_states.proofs.write.write_key.Goals as goal

pub returns : goal.returns
returns g c =
    let m = c.args.machine.now in
    key_written (system_of m) c.system_of-system.result.now (need_of c.args.needs.now)
    c.objects-objects.result.now
    (picture m) (next_tick m) c.next_tick.result
    (c.system_of-system.ensures ∙ c.objects-objects.ensures.system)
    c.objects-objects.ensures.picture
    (tasks_at c.queues.result.now.entries) c.is_shut_down.result c.args.out.now.items _ _ _ _ _
    c.next_tick.ensures.value c.queues.ensures c.is_shut_down.ensures
    (record {
      jobs_step = c.in_ok-push_jobs.ensures;
      ready_step = c.in_ok-push_ready.ensures;
      times_step = c.in_ok-push_times.ensures;
      words_step = c.in_ok-push_words.ensures;
      over_step = c.in_ok-push_flag.ensures;
    })
