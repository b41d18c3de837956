-- A released job and a reschedule leave of each task only the oldest job begun.
use Rattle.std.proofs.Common.{◌≡◌, ℕ, ◌≤◌, ◌⊎◌, inl, inr, Bool, true, false, cond, not, List, [], ◌++◌, map, refl, sym, ◌∙◌, ap, subst}
use Rattle.std.specs.Prelude.{Option, Some, None}
use Rattle.std.specs.List.{filter, AllByRecursion}
use Rattle.std.specs.Option.{option_map}
use Rattle.osek_base.specs.Lists.{is_foremost}
use Rattle.osek_base.specs.System.{System, is_extended, priority_of}
use Rattle.osek_base.specs.State.{Job, JobId, State, may_dispatch, same_id, waits, jobs_but}
use Rattle.osek_base.specs.Priority.{static_priority, dynamic_priority}
use Rattle.osek_base.specs.Choice.{choice}
use Rattle.osek_base.specs.Activation.{released, woken}
use Rattle.osek_base.specs.Reschedule.{entered, id_of, jobs_entered, switched, with_dispatch_of, reschedule}
use Rattle.law_runs.proofs.Lists.{Pairs, EitherWay, clash, all_weaker, all_both, all_any, all_filter, all_kept, all_append, all_map, found, pairs_weaker, pairs_both, pairs_of_all, pairs_kept, pairs_map, pairs_append, either_way, before_found}
use Rattle.law_runs.proofs.Foremost.{AreApart, same_ids, same_self, only, static_le, idle_priority, foremost_too}
use Rattle.law_runs.proofs.Single.{IsSoundJob, IsSoundPair, HasRunner, AreSingle, IsSingle}

module _ (S : System) where
  -- ---- the only job of an extended task

  pub alone : (j : Job) (jobs : List Job) → ((P : Job → Type 0) → AllByRecursion P jobs → P j) → is_extended S j.id.task ≡ true
      → Pairs (IsSoundPair S) jobs → AllByRecursion (λ x. x.id.task ≡ j.id.task → x ≡ j) jobs
  alone j jobs member extended pairs =
      all_weaker (λ x. AllByRecursion (EitherWay (IsSoundPair S) x) jobs) (λ x. x.id.task ≡ j.id.task → x ≡ j) jobs
      (λ x h. one x (member (EitherWay (IsSoundPair S) x) h)) (either_way (IsSoundPair S) jobs pairs)
    where
      one : (x : Job) → EitherWay (IsSoundPair S) x j → x.id.task ≡ j.id.task → x ≡ j
      one x (inl pair) e = clash (sym extended ∙ pair.basic e)
      one x (inr (inl pair)) e = clash (sym extended ∙ ap (λ t. is_extended S t) (sym e) ∙ pair.basic (sym e))
      one x (inr (inr e)) h = e

  -- ---- a job is released

  pub other_way : (a b : JobId) → same_id a b ≡ false → same_id b a ≡ false
  other_way a b h = go (same_id b a) refl
    where
      go : (c : Bool) → same_id b a ≡ c → same_id b a ≡ false
      go false e = e
      go true e = clash (sym (same_self a) ∙ ap (λ n. same_id a n) (sym (same_ids b a e)) ∙ h)

  pub released_single : (j : Job) (s : State) → ((P : Job → Type 0) → AllByRecursion P s.jobs → P j) → is_extended S j.id.task ≡ true
      → IsSingle S s → AreSingle S (released j.id s).made s.running (released j.id s).jobs
  unfolding released
  released_single j s member extended single =
      record {
        known = single.known;
        each = all_append (IsSoundJob S s.made) stay (map woken moved) (all_kept (IsSoundJob S s.made) (λ x. not (same_id x.id j.id)) s.jobs single.each)
            (all_map (IsSoundJob S s.made) (IsSoundJob S s.made) woken moved
            (λ x h. record { given = h.given; idle = h.idle; fresh = h.fresh; extended = λ e. clash (sym e) })
            (all_kept (IsSoundJob S s.made) (λ x. same_id x.id j.id) s.jobs single.each));
        pairs = pairs_append (IsSoundPair S) stay (map woken moved) (pairs_kept (IsSoundPair S) (λ x. not (same_id x.id j.id)) s.jobs single.pairs)
            (pairs_map (IsSoundPair S) (IsSoundPair S) woken moved
            (λ x y h. record { apart = h.apart; unbegun = h.unbegun; basic = h.basic })
            (pairs_kept (IsSoundPair S) (λ x. same_id x.id j.id) s.jobs single.pairs))
            (all_weaker (λ x. (x.id.task ≡ j.id.task → x ≡ j) × (not (same_id x.id j.id) ≡ true)) (λ x. AllByRecursion (IsSoundPair S x) (map woken moved)) stay
            (λ x h. all_map (λ y. same_id y.id j.id ≡ true) (IsSoundPair S x) woken moved (λ y e. across x y h.0 (unsame (same_id x.id j.id) h.1) e) those)
            (all_filter (λ x. x.id.task ≡ j.id.task → x ≡ j) (λ x. not (same_id x.id j.id)) s.jobs (alone j s.jobs member extended single.pairs)));
        runs = go s.running single.runs;
      }
    where
      stay : List Job
      stay = jobs_but j.id s.jobs

      moved : List Job
      moved = filter (λ x. same_id x.id j.id) s.jobs

      those : AllByRecursion (λ y. same_id y.id j.id ≡ true) moved
      those = all_weaker (λ y. Unit {0} × (same_id y.id j.id ≡ true)) (λ y. same_id y.id j.id ≡ true) moved (λ y h. h.1)
          (all_filter (λ y. Unit {0}) (λ y. same_id y.id j.id) s.jobs (all_any (λ y. Unit {0}) s.jobs (λ y. tt)))

      unsame : (b : Bool) → not b ≡ true → b ≡ false
      unsame false h = refl
      unsame true h = clash (sym h)

      never : (x y : Job) → (x.id.task ≡ j.id.task → x ≡ j) → same_id x.id j.id ≡ false → same_id y.id j.id ≡ true → x.id.task ≡ y.id.task → ⊥
      never x y one other same e =
          let here : x ≡ j = one (e ∙ ap (λ (n : JobId). n.task) (same_ids y.id j.id same)) in
          clash (sym (same_self j.id) ∙ ap (λ (z : Job). same_id z.id j.id) (sym here) ∙ other)

      across : (x y : Job) → (x.id.task ≡ j.id.task → x ≡ j) → same_id x.id j.id ≡ false → same_id y.id j.id ≡ true → IsSoundPair S x (woken y)
      across x y one other same = record {
        apart = ap (λ n. same_id n x.id) (same_ids y.id j.id same) ∙ other_way x.id j.id other;
        unbegun = λ e. absurd (never x y one other same e);
        basic = λ e. absurd (never x y one other same e);
      }

      go : (o : Option JobId) → HasRunner s.made s.jobs o → HasRunner s.made (stay ++ map woken moved) o
      go None h = tt
      go (Some r) h = record {
        given = h.given;
        begun = all_append (λ x. same_id x.id r ≡ true → x.begun ≡ true) stay (map woken moved)
            (all_kept (λ x. same_id x.id r ≡ true → x.begun ≡ true) (λ x. not (same_id x.id j.id)) s.jobs h.begun)
            (all_map (λ x. same_id x.id r ≡ true → x.begun ≡ true) (λ x. same_id x.id r ≡ true → x.begun ≡ true) woken moved (λ x f. f)
            (all_kept (λ x. same_id x.id r ≡ true → x.begun ≡ true) (λ x. same_id x.id j.id) s.jobs h.begun));
      }

  -- ---- a job enters running

  abbrev pub is_ready : Job → Bool
  is_ready j = not (waits j)

  -- whether a job is one on which the choice may fall
  abbrev pub is_best : List Job → Job → Bool
  is_best jobs j = is_foremost is_ready (dynamic_priority S) jobs j

  -- no job of the chosen one's task is before it
  first_of_task : (jobs : List Job) (made : List ℕ) (c x y : Job) → is_best jobs c ≡ true → IsSoundJob S made c → IsSoundJob S made x → IsSoundPair S x y
      → ((y ≡ c → AreApart c c) ⊎ (is_best jobs x ≡ false)) → y ≡ c → x.id.task ≡ y.id.task → ⊥
  first_of_task jobs made c x y best sc sx pair (inl r) same task = clash (sym (same_self c.id) ∙ r same)
  first_of_task jobs made c x y best sc sx pair (inr worse) same task = go (waits x) refl
    where
      unbegun : c.begun ≡ false
      unbegun = ap (λ (z : Job). z.begun) (sym same) ∙ pair.unbegun task

      task' : x.id.task ≡ c.id.task
      task' = task ∙ ap (λ (z : Job). z.id.task) same

      no_better : dynamic_priority S c ≤ dynamic_priority S x
      no_better =
          let idle = sc.idle unbegun in
          let flat : dynamic_priority S c ≡ static_priority S c = idle_priority S c idle.0 idle.1 in
          let level : static_priority S x ≡ static_priority S c = ap (priority_of S) task' in
          let low : static_priority S x ≤ dynamic_priority S x = static_le S x in
          subst (λ n. n ≤ dynamic_priority S x) (sym (flat ∙ sym level)) low

      go : (b : Bool) → waits x ≡ b → ⊥
      go true e = clash (sym (sx.extended e) ∙ ap (is_extended S) task ∙ pair.basic task)
      go false e = clash (sym (foremost_too is_ready (dynamic_priority S) jobs c x best (ap not e) no_better) ∙ worse)

  entered_sound : (made : List ℕ) (j : Job) (b : Bool) → IsSoundJob S made j → IsSoundJob S made (cond b (entered S j) j)
  entered_sound made j true h = record { given = h.given; idle = λ e. clash e; fresh = λ e. clash e; extended = h.extended }
  entered_sound made j false h = h

  entered_pair : (x y : Job) (a b : Bool) → IsSoundPair S x y → (b ≡ true → x.id.task ≡ y.id.task → ⊥)
      → IsSoundPair S (cond a (entered S x) x) (cond b (entered S y) y)
  entered_pair x y true true h never = record { apart = h.apart; unbegun = λ e. absurd (never refl e); basic = h.basic }
  entered_pair x y true false h never = record { apart = h.apart; unbegun = h.unbegun; basic = h.basic }
  entered_pair x y false true h never = record { apart = h.apart; unbegun = λ e. absurd (never refl e); basic = h.basic }
  entered_pair x y false false h never = h

  entered_begun : (j : Job) (n : JobId) (b : Bool) → same_id j.id n ≡ b → same_id (cond b (entered S j) j).id n ≡ true → (cond b (entered S j) j).begun ≡ true
  entered_begun j n true e h = refl
  entered_begun j n false e h = clash (sym h ∙ e)

  pub chosen_single : (made : List ℕ) (running : Option JobId) (jobs : List Job) (o : Option Job) → choice S jobs ≡ o → AreSingle S made running jobs
      → AreSingle S made (option_map id_of o) (jobs_entered S o jobs)
  chosen_single made running jobs None e single = record { known = single.known; each = single.each; pairs = single.pairs; runs = tt }
  chosen_single made running jobs (Some c) e single =
      record {
        known = single.known;
        each = all_map (IsSoundJob S made) (IsSoundJob S made) g jobs (λ j h. entered_sound made j (same_id j.id c.id) h) single.each;
        pairs = pairs_map
            (λ x y. (IsSoundPair S x y × ((y ≡ c → AreApart c c) ⊎ (is_best jobs x ≡ false)))
            × ((IsSoundJob S made x × (same_id x.id c.id ≡ true → x ≡ c)) × (IsSoundJob S made y × (same_id y.id c.id ≡ true → y ≡ c))))
            (IsSoundPair S) g jobs
            (λ x y h. entered_pair x y (same_id x.id c.id) (same_id y.id c.id) h.0.0
            (λ b task. first_of_task jobs made c x y chosen.1 chosen.0 h.1.0.0 h.0.0 h.0.1 (h.1.1.1 b) task))
            (pairs_both (λ x y. IsSoundPair S x y × ((y ≡ c → AreApart c c) ⊎ (is_best jobs x ≡ false)))
            (λ x y. (IsSoundJob S made x × (same_id x.id c.id ≡ true → x ≡ c)) × (IsSoundJob S made y × (same_id y.id c.id ≡ true → y ≡ c))) jobs
            (pairs_both (IsSoundPair S) (λ x y. (y ≡ c → AreApart c c) ⊎ (is_best jobs x ≡ false)) jobs single.pairs (before_found AreApart (is_best jobs) jobs c apart e))
            (pairs_of_all (λ x. IsSoundJob S made x × (same_id x.id c.id ≡ true → x ≡ c)) jobs
            (all_both (IsSoundJob S made) (λ x. same_id x.id c.id ≡ true → x ≡ c) jobs single.each itself)));
        runs = record {
          given = chosen.0.given;
          begun = all_map (λ j. Unit {0}) (λ j. same_id j.id c.id ≡ true → j.begun ≡ true) g jobs
              (λ j h. entered_begun j c.id (same_id j.id c.id) refl) (all_any (λ j. Unit {0}) jobs (λ j. tt));
        };
      }
    where
      g : Job → Job
      g j = cond (same_id j.id c.id) (entered S j) j

      chosen : IsSoundJob S made c × (is_best jobs c ≡ true)
      chosen = found (IsSoundJob S made) (is_best jobs) jobs c single.each e

      apart : Pairs AreApart jobs
      apart = pairs_weaker (IsSoundPair S) AreApart jobs (λ x y h. h.apart) single.pairs

      itself : AllByRecursion (λ y. same_id y.id c.id ≡ true → y ≡ c) jobs
      itself = only c jobs (found (λ x. AllByRecursion (EitherWay AreApart x) jobs) (is_best jobs) jobs c (either_way AreApart jobs apart) e).0

  pub reschedule_single : (s : State) → IsSingle S s → IsSingle S (reschedule S s).state
  unfolding reschedule
  reschedule_single s single = go (may_dispatch s)
    where
      go : (b : Bool) → IsSingle S (with_dispatch_of s (cond b (switched S (choice S s.jobs) s) (record { events = []; state = s }))).state
      go true = chosen_single s.made s.running s.jobs (choice S s.jobs) refl single
      go false = single
