use Rattle.std.proofs.Common.{ℕ, ◌≡◌, ◌<◌, ◌≤◌, List, ◌∙◌, sym, ap, subst, arith}
use Rattle.osek_base.specs.System.{System, activation_of}
use Rattle.ready_queues.specs.Queues.{total}
use Rattle.law_kept.specs.Kept.{Kept}
use Rattle.law_kept.specs.KeptService.{caller_in}
use Rattle.law_kept.specs.Standing.{room_for}
use Rattle.services.specs.Objects.{kept_in}
use Rattle.services.specs.Calls.{IsTaskOperand}
use Rattle.services.proofs.BoundLemmas.{chain_room, ended_queues, ended_count}
use Rattle.services.proofs.objects.Objects.chain.Goals as goal

pub add-requires-clause-count : goal.add-requires-clause-count
add-requires-clause-count g c =
    let o = kept_in c.args.self.now in
    let t = c.in-Some.task in
    subst (λ (T : System). ((kept_in c.end_caller.new.self).slots t).count ≤ activation_of T t) (sym c.end_caller.ensures.system)
    (subst (λ (k : Kept). (k.slots t).count ≤ activation_of c.args.self.now.system t) (sym c.end_caller.ensures.kept)
    (at_most (ended_count (caller_in o) o t) (c.requires.fit.counted t)))
  where
    at_most : {a b n : ℕ} → a ≤ b → b ≤ n → a ≤ n
    at_most x y = omega (arith, x, y)

pub add-requires-clause-room : goal.add-requires-clause-room
add-requires-clause-room g c =
    let o = kept_in c.args.self.now in
    let S = c.args.self.now.system in
    let queues : (kept_in c.end_caller.new.self).queues ≡ o.queues = ap (λ (k : Kept). k.queues) c.end_caller.ensures.kept ∙ ended_queues (caller_in o) o in
    subst (λ (T : System). total (kept_in c.end_caller.new.self).queues < room_for T) (sym c.end_caller.ensures.system)
    (subst (λ (q : ℕ → List ℕ). total q < room_for S) (sym queues)
    (chain_room S o c.requires.fit c.in-Some.task (subst (IsTaskOperand S) c.in-Some.is c.requires.known) (sym c.is_chain_full.ensures ∙ c.if-is_chain_full.false)))
