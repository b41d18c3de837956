-- What comes of a machine comes of each state that its node stands for.
use Rattle.std.proofs.Common.{ℕ, ◌≡◌, ◌<◌, ◌≤◌, ◌^◌, arith, Bool, true, false, List, [], refl, sym, ◌∙◌, ap, ap₂, subst}
use Rattle.std.specs.Prelude.{◌==◌, Option, Some, None, Result, Ok, Err, IfOk, IfSome, IfNone, OnOk, length}
use Rattle.std.proofs.Math.Pow.{pow_mono}
use Rattle.std.specs.Int.{bit_at}
use Rattle.std.proofs.lemmas.Bool.{eq-eqb, eqb-true}
use Rattle.osek_base.specs.System.{System}
use Rattle.law_kept.specs.Kept.{Kept}
use Rattle.law_kept.specs.KeptTick.{boot_in, tick_in}
use Rattle.osek_base.specs.declared.ids.Owner.{Owner}
use Rattle.arrival_rules.specs.declared.rule.ArrivalRule.{ArrivalRule}
use Rattle.arrival_rules.specs.Debts.{IsFree}
use Rattle.seen_ticks.specs.declared.observation.Observation.{Observation}
use Rattle.seen_ticks.specs.Seen.{Seen, seen_of}
use Rattle.search_needs.specs.Table.{need_of}
use Rattle.kernel.specs.Machine.{IsBooted, IsOfRun, Machine, next_tick, picture, system_of}
use Rattle.law_future.specs.Alike.{kept_after}
use Rattle.search_keys.specs.Key.{key}
use Rattle.search.specs.Rules.{IsNextChoice, NoMoreMay, StaysNoted}
use Rattle.search.specs.Subsets.{IsSubset, NoSubset}
use Rattle.search_labels.specs.Labels.{IsAtLeast, Labels, arrives_in, first_labels, next_labels, debt_of}
use Rattle.view_figures.specs.FigureSums.{held_count, levels_of, lower_executes}
use Rattle.search_peaks.specs.Noting.{IsNoted, NotesStay, TickShown, shown_by}
use Rattle.search_peaks.specs.Peaks.{AreAtLeast, Peaks}
use Rattle.law_bounds.specs.Nodes.{AreNoted, Comes, IsFirst, IsNext, Node, Setting, StandsFor, labels_at_boot, lower_from, routines_of, search_rules, seen_from, tick_shown_from}
use Rattle.law_bounds.specs.Trying.{AreFree, MaySubsets, OneStateTells, SubsetsMay, TellsAll}
use Rattle.law_bounds.proofs.Going.{boot_state}
use Rattle.law_bounds.proofs.Trying.{labels_are_ordered}
use Rattle.search_nodes.specs.Ground.{Ground, IsGround}
use Rattle.search_bounds.specs.declared.ruling.Ruling.{Ruling}
use Rattle.search_bounds.specs.Held.{IsIn, Ticked}
use Rattle.search_bounds.specs.Exploring.{AreNotedIn, Explorer, IsBehind, explorer_of, setting_of}

-- a run comes to a machine's state
comes : (S : System) (m : Machine) → IsOfRun false m → system_of m ≡ S → Comes S (picture m)
comes S m of_run system = record {
  mode = of_run.mode;
  arrivals = of_run.arrivals;
  ticks = next_tick m;
  same = of_run.come.at.same
      ∙ ap (λ T. kept_after T of_run.mode of_run.arrivals (next_tick m)) system;
}

-- a node stands for the state of a machine that has its key
pub stands : (e : Explorer) (x : Node) (m : Machine) → IsIn e.ground x.key m → x.over ≡ false
    → StandsFor (setting_of e) x (picture m)
stands e x m is going = record {
  comes = comes e.ground.system m is.of_run is.system;
  key = is.key;
  over = is.going ∙ sym going;
}

-- ---- what a tick makes of a machine

pub ticked_in : (S T : System) (arrived routines : List ℕ) (o : Kept) (n : Machine)
    (w : Observation) → T ≡ S → arrived ≡ routines → Ticked T arrived o n w
    → Ticked S routines o n w
ticked_in S T arrived routines o n w system same ticked =
    subst (λ r. Ticked S r o n w) same (subst (λ U. Ticked U arrived o n w) system ticked)

module _ (s : Setting) (set : ℕ) (o : Kept) (n : Machine) (w : Observation)
    (ticked : Ticked s.system (routines_of s set) o n w) where
  pub is_shown : shown_by w (picture n).over ≡ tick_shown_from s set o
  is_shown = λ i. record {
    executor = ticked.executor i;
    seen = ticked.seen i;
    failure = ticked.failure i;
    over = (ticked.after i).over;
  }

  -- the node that is made of it
  pub is_behind : (l behind : Labels) → system_of n ≡ s.system
      → behind ≡ next_labels (lower_executes (levels_of s.system) w.executor) s.cap s.rules set
      (seen_of w) l
      → (y : Node) → y.key ≡ key (system_of n) s.need (picture n) → y.over ≡ (picture n).over
      → y.labels ≡ behind → IsBehind s set o l y
  is_behind l behind system next y made over labels = record {
    key = made ∙ ap₂ (λ S (k : Kept). key S s.need k) system ticked.after;
    over = over ∙ ap (λ (k : Kept). k.over) ticked.after;
    labels = labels ∙ next
        ∙ ap₂ (λ (e : Option Owner) (t : Seen).
        next_labels (lower_executes (levels_of s.system) e) s.cap s.rules set t l)
        ticked.executor ticked.seen;
  }

-- what comes of a machine's state comes of each state that the node stands for
pub tells_all : (e : Explorer) (x : Node) (set : ℕ) (m : Machine) → OneStateTells
    → IsGround e.ground → x.over ≡ false → IsIn e.ground x.key m
    → TellsAll (setting_of e) x set (picture m)
tells_all e x set m tells ground going is =
    tells (setting_of e) x set (picture m) ground.proper ground.suffices ground.own going
    (stands e x m is going)

pub is_next : (e : Explorer) (x y : Node) (set : ℕ) (m : Machine) (l : Labels)
    → TellsAll (setting_of e) x set (picture m) → l ≡ x.labels
    → IsBehind (setting_of e) set (picture m) l y → IsNext (setting_of e) x set y
is_next e x y set m l all same made =
    let s = setting_of e in
    let o = picture m in
    all.next y
    (record {
      key = sym made.key;
      over = sym made.over;
      labels = subst (λ (k : Labels). IsAtLeast k
          (next_labels (lower_from s set o) s.cap s.rules set (seen_from s set o) x.labels))
          (sym (made.labels ∙ ap (λ (k : Labels).
          next_labels (lower_from s set o) s.cap s.rules set (seen_from s set o) k) same))
          (labels_are_ordered.itself _);
    })

pub are_noted : (e : Explorer) (x : Node) (set : ℕ) (m : Machine) (peaks : Peaks) (t : TickShown)
    (l : Labels) → TellsAll (setting_of e) x set (picture m)
    → t ≡ tick_shown_from (setting_of e) set (picture m) → l ≡ x.labels
    → IsNoted (levels_of e.ground.system) e.cap peaks t l → AreNoted (setting_of e) peaks x set
are_noted e x set m peaks t l all shown same noted =
    all.noted peaks
    (subst (λ (k : Labels). IsNoted (levels_of e.ground.system) e.cap peaks
    (tick_shown_from (setting_of e) set (picture m)) k) same
    (subst (λ (s : TickShown). IsNoted (levels_of e.ground.system) e.cap peaks s l) shown noted))

-- the labels after boot
pub first_is : (s : Setting) (tasks routines held : ℕ) → tasks ≡ length s.system.tasks
    → routines ≡ length s.system.routines → held ≡ held_count s.system
    → first_labels (length s.rules) tasks routines held ≡ labels_at_boot s
first_is s tasks routines held one two three =
    ap (λ n. first_labels (length s.rules) n routines held) one
    ∙ ap (λ n. first_labels (length s.rules) (length s.system.tasks) n held) two
    ∙ ap (first_labels (length s.rules) (length s.system.tasks) (length s.system.routines)) three

-- the node after boot
pub is_first : (e : Explorer) (y : Node) (m : Machine) → system_of m ≡ e.ground.system
    → picture m ≡ (boot_in e.ground.system e.mode).state
    → y.key ≡ key (system_of m) (need_of e.ground.needs) (picture m) → y.over ≡ (picture m).over
    → y.labels ≡ labels_at_boot (setting_of e)
    → IsFirst (setting_of e) y
is_first e y m system state made over labels = record {
  key = sym (made ∙ ap (λ S. key S (need_of e.ground.needs) (picture m)) system
      ∙ ap (key e.ground.system (need_of e.ground.needs)) state);
  over = sym (over ∙ ap (λ (o : Kept). o.over) state);
  labels = subst (λ (l : Labels). IsAtLeast l (labels_at_boot (setting_of e))) (sym labels)
      (labels_are_ordered.itself (labels_at_boot (setting_of e)));
}

-- ---- notes

pub stays_noted : (r : Ruling) (before after : Peaks) (e : Explorer) → NotesStay
    → explorer_of r before ≡ e → AreAtLeast after before
    → StaysNoted AreNotedIn e (explorer_of r after)
stays_noted r before after e stay same rises =
    subst (λ (f : Explorer). StaysNoted AreNotedIn f (explorer_of r after)) same
    (λ x set noted o is.
    stay (levels_of r.system.now) r.cap after before _ x.labels rises (noted o is))

pub same_stay : (e f : Explorer) → f ≡ e → StaysNoted AreNotedIn e f
same_stay e f same x set noted = subst (λ (g : Explorer). AreNotedIn g x set) (sym same) noted

-- ---- boot

-- a machine that was booted is in the state of boot
pub booted_state : (S : System) (mode : ℕ) (m : Machine) → IsBooted false S mode m
    → picture m ≡ (boot_in S mode).state
booted_state S mode m booted =
    (booted.begins []).at.same
    ∙ ap (λ T. kept_after T mode [] (next_tick m)) booted.system
    ∙ ap (kept_after S mode []) booted.first
    ∙ sym (boot_state S mode [] booted.proper)

-- ---- sets of routines that may arrive

pub are_free : (count whole : ℕ) (rules : List ArrivalRule) (l : Labels)
    → ((i : ℕ) → bit_at whole i ≡ 1 → IsFree rules (debt_of l) i)
    → ((i : ℕ) → i < count → IsFree rules (debt_of l) i → bit_at whole i ≡ 1) → whole < 2 ^ count
    → AreFree count rules l whole
are_free count whole rules l free others low = record {
  low = low;
  free = λ i here. free i (eqb-true (bit_at whole i) 1 here);
  others = λ i inside may. eq-eqb (bit_at whole i) 1 (others i inside may);
}

pub free_choices : (e f : Explorer) (x : Node) (l : Labels) (count whole : ℕ) → SubsetsMay → f ≡ e
    → l ≡ x.labels → x.over ≡ false
    → count ≡ length f.ground.system.routines
    → ((i : ℕ) → bit_at whole i ≡ 1 → IsFree f.rules (debt_of l) i)
    → ((i : ℕ) → i < count → IsFree f.rules (debt_of l) i → bit_at whole i ≡ 1)
    → whole < 2 ^ count → MaySubsets (setting_of e) x whole
free_choices e f x l count whole may same alike going many free others low =
    let are = subst (λ n. AreFree n f.rules l whole) many
    (are_free count whole f.rules l free others low) in
    subst (λ (g : Explorer). MaySubsets (setting_of g) x whole) same
    (may (setting_of f) x whole going
    (subst (λ (m : Labels). AreFree (length f.ground.system.routines) f.rules m whole) alike are))

pub next_choice : (s : Setting) (x : Node) (whole from count : ℕ) → MaySubsets s x whole
    → whole < 2 ^ count → count ≤ 16 → (o : Option ℕ)
    → IfSome o (λ set. from ≤ set) → IfSome o (λ set. IsSubset set whole)
    → IfSome o (λ set. set ≤ whole) → IfSome o (NoSubset whole from)
    → IfSome o (IsNextChoice (search_rules s) x from)
next_choice s x whole from count may low few None a b c d = tt
next_choice s x whole from count may low few (Some set) high subset within none = record {
  high = high;
  low = (let most = pow_mono few in omega (arith, within, low, most));
  may = may.may set subset;
  others = λ choice above below allowed. none choice above below (may.others choice allowed);
}

pub no_choice : (s : Setting) (x : Node) (whole from : ℕ) → MaySubsets s x whole → (o : Option ℕ)
    → IfNone o ((set : ℕ) → from ≤ set → IsSubset set whole → ⊥)
    → IfNone o (NoMoreMay (search_rules s) x from)
no_choice s x whole from may None none =
    λ choice above allowed. none choice above (may.others choice allowed)
no_choice s x whole from may (Some set) none = tt

-- what holds whatever was answered
pub if_ok : {X E : Type 0} (P : Type 0) (r : Result X E) → P → OnOk r P
if_ok P (Ok x) is = is
if_ok P (Err e) is = tt

-- what is said of what was found
pub all_found : {X E : Type 0} (A B C P : X → Type 0) (r : Result (Option X) E)
    → ((x : X) → A x → B x → C x → P x) → IfOk r (λ o. IfSome o A) → IfOk r (λ o. IfSome o B)
    → IfOk r (λ o. IfSome o C) → IfOk r (λ o. IfSome o P)
all_found A B C P (Ok (Some x)) go a b c = go x a b c
all_found A B C P (Ok None) go a b c = tt
all_found A B C P (Err e) go a b c = tt

pub if_some : {X : Type 0} (P : X → Type 0) (o : Option X) (x : X) → o ≡ Some x → IfSome o P → P x
if_some P o x same has = subst (λ p. IfSome p P) same has

-- a machine is in the state of a node
pub is_in_of : (g h : Ground) (k l : List ℕ) (m : Machine) → h ≡ g → l ≡ k → IsIn h l m
    → IsIn g k m
is_in_of g h k l m same alike is = subst (λ j. IsIn j k m) same (subst (λ b. IsIn h b m) alike is)
