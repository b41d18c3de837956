-- The wait of each alarm through changes of the list.
use Rattle.std.proofs.Common.{ℕ, ◌≡◌, ◌<◌, ◌≤◌, ◌+◌, ◌-◌, List, [], ◌∷◌, ◌++◌, map, length, Option, None, Some, Bool, true, false, cond, not, ◌||◌, inl, inr, refl, sym, ◌∙◌, ap, arith, eqb, ltb}
use Rattle.std.specs.List.{list_all}
use Rattle.std.proofs.lemmas.Bool.{cases_Bool, and_parts, eqb-true, ne_eqb, ltb-true, or_from, and_from, not-true, not_from_false}
use Rattle.std.proofs.lemmas.Bool.Decides.{nat_tests}
use Rattle.std.proofs.lemmas.List.Folds.{list_any-append}
use Rattle.osek_base.specs.declared.limits.TheConstants.{MAX_ALARMS}
use Rattle.alarms.specs.Waits.{Wait, wait_of, inserted, is_sooner, has, are_apart, are_ahead, overs, is_over, again, IsLeft, less_by, are_beyond, restarted, is_raised, without, expiry_at}
use Rattle.osek_base.specs.Alarm.{is_due_at}
use Rattle.alarms.specs.Alarms.{expired_at}

pub or_first : (a b : Bool) → (a || b) ≡ false → a ≡ false
or_first true b h = h
or_first false b h = refl

pub or_second : (a b : Bool) → (a || b) ≡ false → b ≡ false
or_second true b h = absurd (cc)
or_second false b h = h

-- two alarms apart aren't both the one asked for
one_alone : (x t a : ℕ) → eqb x t ≡ false → eqb x a ≡ true → eqb t a ≡ false
one_alone x t a apart here = grind (arith, nat_tests)

choose_late : (x w : Wait) (a : ℕ) (r : Option Wait) → eqb x.alarm w.alarm ≡ false
    → cond (eqb x.alarm a) (Some x) (cond (eqb w.alarm a) (Some w) r) ≡ cond (eqb w.alarm a) (Some w) (cond (eqb x.alarm a) (Some x) r)
choose_late x w a r apart = elim (cases_Bool (eqb x.alarm a)) [
  | inl here ↦ rw (here, one_alone x.alarm w.alarm a apart here) refl
  | inr away ↦ rw away refl
]

pub wait_of-last : (rest : List Wait) (w : Wait) (a : ℕ) → has w.alarm rest ≡ false
    → wait_of a (rest ++ w ∷ []) ≡ cond (eqb w.alarm a) (Some w) (wait_of a rest)
wait_of-last [] w a none = refl
wait_of-last (x ∷ rest) w a none =
    let away : eqb x.alarm w.alarm ≡ false = or_first _ _ none in
    let others : has w.alarm rest ≡ false = or_second _ _ none in
    rw (wait_of-last rest w a others) (choose_late x w a (wait_of a rest) away)

pub wait_of-inserted : (rest : List Wait) (t : Wait) (a : ℕ) → has t.alarm rest ≡ false
    → wait_of a (inserted t rest) ≡ cond (eqb t.alarm a) (Some t) (wait_of a rest)
wait_of-inserted [] t a none = refl
wait_of-inserted (x ∷ rest) t a none =
    let away : eqb x.alarm t.alarm ≡ false = or_first _ _ none in
    let others : has t.alarm rest ≡ false = or_second _ _ none in
    elim (cases_Bool (list_all (is_sooner t) (x ∷ rest))) [
      | inl all ↦ rw all refl
      | inr some ↦ rw (some, wait_of-inserted rest t a others) (choose_late x t a (wait_of a rest) away)
    ]

swap_or : (a b c : Bool) → (a || (b || c)) ≡ (b || (a || c))
swap_or true true c = refl
swap_or true false c = refl
swap_or false b c = refl

pub has-inserted : (rest : List Wait) (t : Wait) (a : ℕ) → has a (inserted t rest) ≡ (eqb t.alarm a || has a rest)
has-inserted [] t a = refl
has-inserted (x ∷ rest) t a = elim (cases_Bool (list_all (is_sooner t) (x ∷ rest))) [
  | inl all ↦ rw all refl
  | inr some ↦ rw (some, has-inserted rest t a) (swap_or (eqb x.alarm a) (eqb t.alarm a) (has a rest))
]

eqb_swap : (a b : ℕ) → eqb a b ≡ false → eqb b a ≡ false
eqb_swap a b h = grind (arith, nat_tests)

pub apart-inserted : (rest : List Wait) (t : Wait) → has t.alarm rest ≡ false → are_apart rest ≡ true → are_apart (inserted t rest) ≡ true
apart-inserted [] t none apart = refl
apart-inserted (x ∷ rest) t none apart =
    let away : eqb t.alarm x.alarm ≡ false = eqb_swap _ _ (or_first _ _ none) in
    let others : has t.alarm rest ≡ false = or_second _ _ none in
    let parts = and_parts (not (has x.alarm rest)) (are_apart rest) apart in
    let first : has x.alarm rest ≡ false = not-true _ parts.0 in
    elim (cases_Bool (list_all (is_sooner t) (x ∷ rest))) [
      | inl all ↦ rw (all, none) apart
      | inr some ↦ rw (some, has-inserted rest t x.alarm, away, first) (apart-inserted rest t others parts.1)
    ]

pub record IsApartLast (rest : List Wait) (w : Wait) : Type 0 where
  pub apart : are_apart rest ≡ true
  pub none : has w.alarm rest ≡ false

pub apart-last : (rest : List Wait) (w : Wait) → are_apart (rest ++ w ∷ []) ≡ true → IsApartLast rest w
apart-last [] w apart = record { apart = refl; none = refl }
apart-last (x ∷ rest) w apart =
    let parts = and_parts (not (has x.alarm (rest ++ w ∷ []))) (are_apart (rest ++ w ∷ [])) apart in
    let behind = apart-last rest w parts.1 in
    let split : has x.alarm (rest ++ w ∷ []) ≡ (has x.alarm rest || has x.alarm (w ∷ [])) = list_any-append (λ v. eqb v.alarm x.alarm) rest (w ∷ []) in
    let free : (has x.alarm rest || has x.alarm (w ∷ [])) ≡ false = sym split ∙ not-true _ parts.0 in
    let first : has x.alarm rest ≡ false = or_first _ _ free in
    let last : eqb w.alarm x.alarm ≡ false = or_first _ _ (or_second (has x.alarm rest) (has x.alarm (w ∷ [])) free) in
    record {
      apart = and_from _ _ (not_from_false _ first) behind.apart;
      none = or_from _ _ (eqb_swap w.alarm x.alarm last) behind.none;
    }

pub overs-last : (rest : List Wait) (w : Wait) → w.left ≡ 0 → overs (rest ++ w ∷ []) ≡ overs rest + 1
overs-last [] w none = rw none refl
overs-last (x ∷ rest) w none = elim (cases_Bool (eqb x.left 0)) [
  | inl here ↦ rw (here, overs-last rest w none) refl
  | inr away ↦ rw (away, overs-last rest w none) refl
]

pub overs-inserted : (rest : List Wait) (t : Wait) → eqb t.left 0 ≡ false → overs (inserted t rest) ≡ overs rest
overs-inserted [] t some = rw some refl
overs-inserted (x ∷ rest) t some = elim (cases_Bool (list_all (is_sooner t) (x ∷ rest))) [
  | inl all ↦ rw (all, some) refl
  | inr late ↦ rw (late, overs-inserted rest t some) refl
]

-- where no wait is over, none starts again
pub ahead-again : (ws : List Wait) (a : ℕ) → are_ahead ws ≡ true → again (wait_of a ws) ≡ wait_of a ws
ahead-again [] a ahead = refl
ahead-again (x ∷ ws) a ahead =
    let more : 0 < x.left = ltb-true 0 x.left (and_parts _ _ ahead).0 in
    let some : eqb x.left 0 ≡ false = ne_eqb x.left 0 (λ (e : x.left ≡ 0). omega arith) in
    elim (cases_Bool (eqb x.alarm a)) [
      | inl here ↦ rw (here, some) refl
      | inr away ↦ rw away (ahead-again ws a (and_parts _ _ ahead).1)
    ]

pub ahead-over : (ws : List Wait) (a : ℕ) → are_ahead ws ≡ true → is_over (wait_of a ws) ≡ false
ahead-over [] a ahead = refl
ahead-over (x ∷ ws) a ahead =
    let more : 0 < x.left = ltb-true 0 x.left (and_parts _ _ ahead).0 in
    let some : eqb x.left 0 ≡ false = ne_eqb x.left 0 (λ (e : x.left ≡ 0). omega arith) in
    elim (cases_Bool (eqb x.alarm a)) [
      | inl here ↦ rw (here, some) refl
      | inr away ↦ rw away (ahead-over ws a (and_parts _ _ ahead).1)
    ]

length-inserted : (rest : List Wait) (t : Wait) → length (inserted t rest) ≡ length rest + 1
length-inserted [] t = refl
length-inserted (x ∷ rest) t = elim (cases_Bool (list_all (is_sooner t) (x ∷ rest))) [
  | inl all ↦ rw all (omega arith)
  | inr late ↦ rw late (omega (arith, length-inserted rest t))
]

pub none_there : (ws : List Wait) (a : ℕ) → has a ws ≡ false → wait_of a ws ≡ None
none_there [] a none = refl
none_there (x ∷ ws) a none =
    let away : eqb x.alarm a ≡ false = or_first _ _ none in
    let others : has a ws ≡ false = or_second _ _ none in
    rw away (none_there ws a others)

abbrev pub over_wait : ℕ → ℕ → Wait
over_wait a cycle = record { alarm = a; left = 0; cycle = cycle }

pub wait_of-restarted : (rest : List Wait) (b cycle a : ℕ) → has b rest ≡ false
    → wait_of a (restarted b cycle rest) ≡ cond (eqb b a) (again (Some (over_wait b cycle))) (wait_of a rest)
wait_of-restarted rest b cycle a none = elim (cases_Bool (eqb cycle 0)) [
  | inl once ↦ elim (cases_Bool (eqb b a)) [
    | inl here ↦
        let same : b ≡ a = eqb-true b a here in
        let gone : has a rest ≡ false = rw same at none in
        rw (once, here) (none_there rest a gone)
    | inr away ↦ rw (once, away) refl
  ]
  | inr cyclic ↦ rw (cyclic, wait_of-inserted rest (record { alarm = b; left = cycle; cycle = cycle }) a none) refl
]

-- an alarm that started again isn't over
again_again : (w : Option Wait) → again (again w) ≡ again w
again_again None = refl
again_again (Some w) = elim (cases_Bool (eqb w.left 0)) [
  | inl over ↦ elim (cases_Bool (eqb w.cycle 0)) [
    | inl once ↦ rw (over, once) refl
    | inr cyclic ↦ rw (over, cyclic, cyclic) refl
  ]
  | inr left ↦ rw (left, left) refl
]

over_again : (w : Option Wait) → is_over (again w) ≡ false
over_again None = refl
over_again (Some w) = elim (cases_Bool (eqb w.left 0)) [
  | inl over ↦ elim (cases_Bool (eqb w.cycle 0)) [
    | inl once ↦ rw (over, once) refl
    | inr cyclic ↦ rw (over, cyclic, cyclic) refl
  ]
  | inr left ↦ rw (left, left) refl
]

raised_here : (p : Bool) → ((p || true) || false) ≡ (p || true)
raised_here true = refl
raised_here false = refl

raised_away : (p r : Bool) → ((p || false) || r) ≡ (p || r)
raised_away true r = refl
raised_away false r = refl

same_again : (old ws rest : List Wait) (b cycle a : ℕ) → has b rest ≡ false
    → wait_of a ws ≡ cond (eqb b a) (Some (over_wait b cycle)) (wait_of a rest)
    → again (wait_of a (restarted b cycle rest)) ≡ again (wait_of a ws)
same_again old ws rest b cycle a none before = elim (cases_Bool (eqb b a)) [
  | inl here ↦
      let was : wait_of a ws ≡ Some (over_wait b cycle) = rw here at before in
      let now : wait_of a (restarted b cycle rest) ≡ again (Some (over_wait b cycle)) = rw here at (wait_of-restarted rest b cycle a none) in
      ap again now ∙ (again_again (Some (over_wait b cycle)) ∙ ap again (sym was))
  | inr away ↦
      let was : wait_of a ws ≡ wait_of a rest = rw away at before in
      let now : wait_of a (restarted b cycle rest) ≡ wait_of a rest = rw away at (wait_of-restarted rest b cycle a none) in
      ap again (now ∙ sym was)
]

same_raised : (ws rest : List Wait) (before flags : ℕ) (b cycle a : ℕ) → has b rest ≡ false
    → wait_of a ws ≡ cond (eqb b a) (Some (over_wait b cycle)) (wait_of a rest)
    → is_raised a flags ≡ (is_raised a before || eqb b a)
    → (is_raised a flags || is_over (wait_of a (restarted b cycle rest))) ≡ (is_raised a before || is_over (wait_of a ws))
same_raised ws rest before flags b cycle a none was_there raised = elim (cases_Bool (eqb b a)) [
  | inl here ↦
      let was : wait_of a ws ≡ Some (over_wait b cycle) = rw here at was_there in
      let now : wait_of a (restarted b cycle rest) ≡ again (Some (over_wait b cycle)) = rw here at (wait_of-restarted rest b cycle a none) in
      let over : is_over (wait_of a (restarted b cycle rest)) ≡ false = ap is_over now ∙ over_again (Some (over_wait b cycle)) in
      let is_due : is_over (wait_of a ws) ≡ true = ap is_over was in
      rw (raised, over, is_due, here) (raised_here (is_raised a before))
  | inr away ↦
      let was : wait_of a ws ≡ wait_of a rest = rw away at was_there in
      let now : wait_of a (restarted b cycle rest) ≡ wait_of a rest = rw away at (wait_of-restarted rest b cycle a none) in
      let over : is_over (wait_of a (restarted b cycle rest)) ≡ is_over (wait_of a ws) = ap is_over (now ∙ sym was) in
      rw (raised, over, away) (raised_away (is_raised a before) (is_over (wait_of a ws)))
]

apart_next : (rest : List Wait) (b cycle : ℕ) → has b rest ≡ false → are_apart rest ≡ true → are_apart (restarted b cycle rest) ≡ true
apart_next rest b cycle none apart = elim (cases_Bool (eqb cycle 0)) [
  | inl once ↦ rw once apart
  | inr cyclic ↦ rw cyclic (apart-inserted rest (record { alarm = b; left = cycle; cycle = cycle }) none apart)
]

length_last : (rest : List Wait) (w : Wait) → length (rest ++ w ∷ []) ≡ length rest + 1
length_last [] w = refl
length_last (x ∷ rest) w = omega (arith, length_last rest w)

overs-restarted : (rest : List Wait) (b cycle : ℕ) → overs (restarted b cycle rest) ≡ overs rest
overs-restarted rest b cycle = elim (cases_Bool (eqb cycle 0)) [
  | inl once ↦ rw once refl
  | inr cyclic ↦ rw cyclic (overs-inserted rest (record { alarm = b; left = cycle; cycle = cycle }) cyclic)
]

pub overs-fall : (ws rest : List Wait) (b cycle : ℕ) → ws ≡ rest ++ over_wait b cycle ∷ [] → overs ws ≡ overs (restarted b cycle rest) + 1
overs-fall ws rest b cycle is = ap overs is ∙ (overs-last rest (over_wait b cycle) refl ∙ ap (λ n. n + 1) (sym (overs-restarted rest b cycle)))

length-restarted : (rest : List Wait) (b cycle : ℕ) → length (restarted b cycle rest) ≤ length rest + 1
length-restarted rest b cycle = elim (cases_Bool (eqb cycle 0)) [
  | inl once ↦ rw once (omega arith)
  | inr cyclic ↦ rw cyclic (omega (arith, length-inserted rest (record { alarm = b; left = cycle; cycle = cycle })))
]

pub length-was : (ws rest : List Wait) (b cycle : ℕ) → ws ≡ rest ++ over_wait b cycle ∷ [] → length ws ≡ length rest + 1
length-was ws rest b cycle is = ap length is ∙ length_last rest (over_wait b cycle)

few_next : (ws rest : List Wait) (b cycle : ℕ) → ws ≡ rest ++ over_wait b cycle ∷ [] → length ws ≤ MAX_ALARMS → length (restarted b cycle rest) ≤ MAX_ALARMS
few_next ws rest b cycle is few = omega (arith, length-was ws rest b cycle is, length-restarted rest b cycle)

pub left_next : (old ws rest : List Wait) (first before flags : ℕ) (b cycle : ℕ) → IsLeft old first ws before
    → ws ≡ rest ++ over_wait b cycle ∷ []
    → ((a : ℕ) → is_raised a flags ≡ (is_raised a before || eqb b a))
    → IsLeft old first (restarted b cycle rest) flags
left_next old ws rest first before flags b cycle done is raised =
    let last : IsApartLast rest (over_wait b cycle) = apart-last rest (over_wait b cycle) (rw is at done.apart) in
    let none : has b rest ≡ false = last.none in
    let was_there : (a : ℕ) → wait_of a ws ≡ cond (eqb b a) (Some (over_wait b cycle)) (wait_of a rest) =
    λ a. ap (wait_of a) is ∙ wait_of-last rest (over_wait b cycle) a none in
    record {
      waits_same = λ a. same_again old ws rest b cycle a none (was_there a) ∙ done.waits_same a;
      raised_same = λ a. same_raised ws rest before flags b cycle a none (was_there a) (raised a) ∙ done.raised_same a;
      apart = apart_next rest b cycle none last.apart;
      few = few_next ws rest b cycle is done.few;
    }

pub or_none : (a b : Bool) → b ≡ false → a ≡ (a || b)
or_none true b none = refl
or_none false b none = sym none

has-less : (n a : ℕ) (ws : List Wait) → has a (map (less_by n) ws) ≡ has a ws
has-less n a [] = refl
has-less n a (w ∷ ws) = rw (has-less n a ws) refl

pub apart-less : (n : ℕ) (ws : List Wait) → are_apart (map (less_by n) ws) ≡ are_apart ws
apart-less n [] = refl
apart-less n (w ∷ ws) = rw (has-less n w.alarm ws, apart-less n ws) refl

-- ---- what a caller sees of an alarm

pub wait_of-without : (ws : List Wait) (b a : ℕ) → are_apart ws ≡ true → wait_of a (without b ws) ≡ cond (eqb b a) None (wait_of a ws)
wait_of-without [] b a apart = elim (cases_Bool (eqb b a)) [ inl here ↦ rw here refl | inr away ↦ rw away refl ]
wait_of-without (w ∷ ws) b a apart =
    let parts = and_parts (not (has w.alarm ws)) (are_apart ws) apart in
    let alone : has w.alarm ws ≡ false = not-true _ parts.0 in
    elim (cases_Bool (eqb w.alarm b)) [
      | inl found ↦
          let same : w.alarm ≡ b = eqb-true w.alarm b found in
          let gone : has b ws ≡ false = rw same at alone in
          elim (cases_Bool (eqb b a)) [
            | inl here ↦
                let is : b ≡ a = eqb-true b a here in
                let none : has a ws ≡ false = rw is at gone in
                rw (found, here) (none_there ws a none)
            | inr away ↦ rw (found, away, same, away) refl
          ]
      | inr other ↦ elim (cases_Bool (eqb w.alarm a)) [
        | inl here ↦ rw (other, here, one_alone w.alarm b a other here) refl
        | inr away ↦ rw (other, away) (wait_of-without ws b a parts.1)
      ]
    ]

-- counts: an expiry by a count that never wraps
pub expiry-less : (c n : ℕ) (ws : List Wait) (a : ℕ) → 0 < n → are_beyond (n - 1) ws ≡ true
    → expiry_at (c + n) (wait_of a (map (less_by n) ws)) ≡ expiry_at c (wait_of a ws)
expiry-less c n [] a some beyond = refl
expiry-less c n (w ∷ ws) a some beyond =
    let parts = and_parts (ltb (n - 1) w.left) (are_beyond (n - 1) ws) beyond in
    let more : n - 1 < w.left = ltb-true (n - 1) w.left parts.0 in
    let same : c + n + (w.left - n) ≡ c + w.left = omega arith in
    elim (cases_Bool (eqb w.alarm a)) [
      | inl here ↦ rw (here, same) refl
      | inr away ↦ rw away (expiry-less c n ws a some parts.1)
    ]

pub expiry-again : (n : ℕ) (w : Option Wait) → expiry_at n (again w) ≡ expired_at n (expiry_at n w)
expiry-again n None = refl
expiry-again n (Some w) =
    let test : eqb (n + w.left) n ≡ eqb w.left 0 = grind (arith, nat_tests) in
    elim (cases_Bool (eqb w.left 0)) [
      | inl over ↦
          let none : w.left ≡ 0 = eqb-true w.left 0 over in
          let start : n + w.left + w.cycle ≡ n + w.cycle = omega arith in
          elim (cases_Bool (eqb w.cycle 0)) [
            | inl once ↦ rw (test, over, once) refl
            | inr cyclic ↦ rw (test, over, cyclic, start) refl
          ]
      | inr left ↦ rw (test, left) refl
    ]

pub due-over : (n : ℕ) (w : Option Wait) → is_due_at n (expiry_at n w) ≡ is_over w
due-over n None = refl
due-over n (Some w) = grind (arith, nat_tests)
