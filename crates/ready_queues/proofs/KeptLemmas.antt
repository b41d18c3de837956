-- Rings for all levels: what a write of one does to the queues and to the count.
use Rattle.std.proofs.Common.{◌≡◌, ◌≢◌, ℕ, zero, suc, ◌+◌, ◌-◌, ◌<◌, ◌≤◌, slice_get, replicate, Some, List, [], ◌∷◌, length, drop, get_or, set, refl, ap, sym, ◌∙◌, arith, inl, inr, get_or-set_same, get_or-set_other, length-set, length-drop}
use Rattle.std.proofs.lemmas.Bool.{cases_eq}
use Rattle.std.proofs.lemmas.List.{get_or_read, get_or-replicate, length-replicate}
use Rattle.std.proofs.Math.Path.{fun_ext}
use Rattle.circular_buffer.specs.Buffer.{Buffer, buffer}
use Rattle.ready_queues.specs.declared.ready_queues.TheConstants.{LEVELS}
use Rattle.ready_queues.specs.Queues.{Queues, no_tasks, with_level, total, top_level, first_at, first_task, without_first_at, without_first}
use Rattle.ready_queues.specs.Levels.{Levels, tasks_of, items_of, seen, ring_at, tasks_at, IsCounted}
use Rattle.ready_queues.proofs.Writes.{with_level-same, with_level-other, same_queues, total_below-with_level, length-le-total, total_below-none}
use Rattle.ready_queues.proofs.Tops.{IsTop, top_below-some, top_below-is}

-- the tasks of a level are those in its ring
pub tasks-ring : (rings : List (Buffer ℕ)) (k : ℕ) → tasks_at rings k ≡ (ring_at rings k).items
tasks-ring [] k = refl
tasks-ring (r ∷ rs) zero = refl
tasks-ring (r ∷ rs) (suc k) = tasks-ring rs k

-- a write to the rings is a write to the queues
pub tasks_at-set : (rings : List (Buffer ℕ)) (l : ℕ) (b : Buffer ℕ) → l < length rings
    → tasks_at (set rings l b) ≡ with_level l b.items (tasks_at rings)
tasks_at-set rings l b low = same_queues l _ _
    (tasks-ring (set rings l b) l ∙ ap items_of (get_or-set_same rings l b (buffer [] 0) low)
    ∙ sym (with_level-same l b.items (tasks_at rings)))
    (λ k ne. tasks-ring (set rings l b) k ∙ ap items_of (get_or-set_other rings l k b (buffer [] 0) ne)
    ∙ sym (with_level-other l k b.items (tasks_at rings) ne ∙ tasks-ring rings k))

-- ---- new rings

pub tasks_at-new : (room : ℕ) (rings : List (Buffer ℕ)) → rings ≡ replicate LEVELS (buffer [] room)
    → tasks_at rings ≡ no_tasks
tasks_at-new room rings e = fun_ext (λ k. ap (λ rs. tasks_at rs k) e ∙ go k LEVELS)
  where
    go : (k n : ℕ) → tasks_at (replicate n (buffer [] room)) k ≡ []
    go k zero = refl
    go zero (suc n) = refl
    go (suc k) (suc n) = go k n

pub counted-new : (room : ℕ) (rings : List (Buffer ℕ)) → rings ≡ replicate LEVELS (buffer [] room)
    → IsCounted rings 0 room
counted-new room rings e =
    let at : (k : ℕ) → k < LEVELS → ring_at rings k ≡ buffer [] room =
    λ k low. ap (λ rs. ring_at rs k) e ∙ get_or-replicate LEVELS k (buffer [] room) (buffer [] 0) low in
    record {
      all = ap length e ∙ length-replicate LEVELS (buffer {X = ℕ} [] room);
      roomy = λ k low. ap (λ (b : Buffer ℕ). b.capacity) (at k low);
      counted = ap total (tasks_at-new room rings e) ∙ total_below-none LEVELS;
    }

-- ---- one ring of counted rings

module _ (rings : List (Buffer ℕ)) (count room : ℕ) (is : IsCounted rings count room) where
  -- what a read gives
  pub read_ring : (l : ℕ) (was : Buffer ℕ) → l < LEVELS → was ≡ get_or rings l was → was ≡ ring_at rings l
  read_ring l was low read = let all = is.all in get_or_read rings l was (omega arith) read (buffer [] 0)

  pub read_tasks : (l : ℕ) (was : Buffer ℕ) → l < LEVELS → was ≡ get_or rings l was → was.items ≡ tasks_at rings l
  read_tasks l was low read = ap items_of (read_ring l was low read) ∙ sym (tasks-ring rings l)

  pub read_capacity : (l : ℕ) (was : Buffer ℕ) → l < LEVELS → was ≡ get_or rings l was → was.capacity ≡ room
  read_capacity l was low read = ap (λ (b : Buffer ℕ). b.capacity) (read_ring l was low read) ∙ is.roomy l low

  -- where not all room is taken, each ring has room
  pub room_at : (l : ℕ) (was : Buffer ℕ) → l < LEVELS → was ≡ get_or rings l was → total (tasks_at rings) < room
      → length was.items < was.capacity
  room_at l was low read left =
      let long : length was.items ≡ length (tasks_at rings l) = ap length (read_tasks l was low read) in
      let whole = read_capacity l was low read in
      let part = length-le-total LEVELS l (tasks_at rings) low in
      omega arith

  -- the same where a contract sees the levels
  pub room_seen : (l : ℕ) (was : Buffer ℕ) (value : Levels) → seen rings room ≡ value → l < LEVELS
      → was ≡ get_or rings l was → total (tasks_of value) < value.room → length was.items < was.capacity
  room_seen l was value view_is low read left =
      let tasks : total (tasks_at rings) ≡ total (tasks_of value) = ap (λ (v : Levels). total (tasks_of v)) view_is in
      let same : room ≡ value.room = ap (λ (v : Levels). v.room) view_is in
      room_at l was low read (omega arith)

  -- a ring with all the room keeps the counts
  pub counted-set : (l : ℕ) (b : Buffer ℕ) (more : ℕ) → l < LEVELS → b.capacity ≡ room
      → more + length (tasks_at rings l) ≡ count + length b.items → IsCounted (set rings l b) more room
  counted-set l b more low whole change =
      let all = is.all in
      let total_is : total (tasks_at (set rings l b)) ≡ total (with_level l b.items (tasks_at rings)) =
      ap total (tasks_at-set rings l b (omega arith)) in
      let changed = total_below-with_level LEVELS l b.items (tasks_at rings) low in
      let counted = is.counted in
      record {
        all = length-set rings l b ∙ is.all;
        roomy = λ k within. elim (cases_eq k l) [
          | inl e ↦ ap (λ j. (ring_at (set rings l b) j).capacity) e
              ∙ ap (λ (x : Buffer ℕ). x.capacity) (get_or-set_same rings l b (buffer [] 0) (omega arith)) ∙ whole
          | inr ne ↦ ap (λ (x : Buffer ℕ). x.capacity) (get_or-set_other rings l k b (buffer [] 0) ne)
              ∙ is.roomy k within
        ];
        counted = omega arith;
      }

  -- a ring gets one entry more
  pub counted-put : (l : ℕ) (was now : Buffer ℕ) (xs : List ℕ) → l < LEVELS → was ≡ get_or rings l was
      → now ≡ buffer xs was.capacity → length xs ≡ length was.items + 1 → IsCounted (set rings l now) (count + 1) room
  counted-put l was now xs low read is_now longer =
      let long : length was.items ≡ length (tasks_at rings l) = ap length (read_tasks l was low read) in
      let now_long : length now.items ≡ length xs = ap (λ (b : Buffer ℕ). length b.items) is_now in
      let whole = ap (λ (b : Buffer ℕ). b.capacity) is_now ∙ read_capacity l was low read in
      counted-set l now (count + 1) low whole (omega arith)

  -- what the queues are after a write
  pub tasks_at-write : (l : ℕ) (was now : Buffer ℕ) (change : List ℕ → List ℕ) → l < LEVELS
      → was ≡ get_or rings l was → now ≡ buffer (change was.items) was.capacity
      → tasks_at (set rings l now) ≡ with_level l (change (tasks_at rings l)) (tasks_at rings)
  tasks_at-write l was now change low read is_now =
      let all = is.all in
      tasks_at-set rings l now (omega arith)
      ∙ ap (λ (xs : List ℕ). with_level l xs (tasks_at rings))
      (ap items_of is_now ∙ ap change (read_tasks l was low read))

  -- what is known of the level that is on top
  pub record IsAtTop (l : ℕ) (was : Buffer ℕ) : Type 0 where
    pub low : l < LEVELS
    pub tasks : was.items ≡ tasks_at rings l
    pub whole : was.capacity ≡ room
    pub has_task : 0 < length was.items
    pub some : 0 < count

  pub at_top : (l : ℕ) (was : Buffer ℕ) → Some l ≡ top_level (tasks_at rings) → was ≡ get_or rings l was
      → IsAtTop l was
  at_top l was top read =
      let t : IsTop LEVELS (tasks_at rings) l = top_below-is LEVELS (tasks_at rings) l (sym top) in
      let tasks = read_tasks l was t.below read in
      let long : length was.items ≡ length (tasks_at rings l) = ap length tasks in
      let some = t.has_task in
      let part = length-le-total LEVELS l (tasks_at rings) t.below in
      let counted = is.counted in
      record {
        low = t.below;
        tasks = tasks;
        whole = read_capacity l was t.below read;
        has_task = omega arith;
        some = omega arith;
      }

  -- that level gives up its first task
  pub counted-take : (l : ℕ) (was now : Buffer ℕ) → IsAtTop l was → now ≡ buffer (drop 1 was.items) was.capacity
      → IsCounted (set rings l now) (count - 1) room
  counted-take l was now t is_now =
      let long : length was.items ≡ length (tasks_at rings l) = ap length t.tasks in
      let now_long : length now.items ≡ length was.items - 1 =
      ap (λ (b : Buffer ℕ). length b.items) is_now ∙ length-drop 1 was.items in
      let had = t.has_task in
      let some = t.some in
      counted-set l now (count - 1) t.low (ap (λ (b : Buffer ℕ). b.capacity) is_now ∙ t.whole) (omega arith)

  -- what is taken
  pub first-take : (l : ℕ) (was : Buffer ℕ) → IsAtTop l was → Some l ≡ top_level (tasks_at rings)
      → slice_get was.items 0 ≡ first_task (tasks_at rings)
  first-take l was t top =
      ap (λ (xs : List ℕ). slice_get xs 0) t.tasks ∙ ap (first_at (tasks_at rings)) top

  -- what is left
  pub tasks_at-take : (l : ℕ) (was now : Buffer ℕ) → IsAtTop l was → Some l ≡ top_level (tasks_at rings)
      → now ≡ buffer (drop 1 was.items) was.capacity → tasks_at (set rings l now) ≡ without_first (tasks_at rings)
  tasks_at-take l was now t top is_now =
      let all = is.all in
      let low = t.low in
      tasks_at-set rings l now (omega arith)
      ∙ ap (λ (xs : List ℕ). with_level l xs (tasks_at rings)) (ap items_of is_now ∙ ap (drop 1) t.tasks)
      ∙ ap (without_first_at (tasks_at rings)) top

  -- a search from above stops at the highest level that has a task
  pub found_top : (n : ℕ) (was : Buffer ℕ) → 0 < n → n ≤ LEVELS → was ≡ get_or rings (n - 1) was
      → length was.items ≢ 0 → ((k : ℕ) → n ≤ k → k < LEVELS → tasks_at rings k ≡ [])
      → Some (n - 1) ≡ top_level (tasks_at rings)
  found_top n was some within read full above =
      let long : length was.items ≡ length (tasks_at rings (n - 1)) =
      ap length (read_tasks (n - 1) was (omega arith) read) in
      sym (top_below-some LEVELS (tasks_at rings) (n - 1) record {
        below = omega arith;
        has_task = omega arith;
        none_above = λ k high below. above k (omega arith) below;
      })

  -- and goes on below a level that has none
  pub none_from : (n : ℕ) (was : Buffer ℕ) → 0 < n → n ≤ LEVELS → was ≡ get_or rings (n - 1) was
      → length was.items ≡ 0 → ((k : ℕ) → n ≤ k → k < LEVELS → tasks_at rings k ≡ [])
      → (k : ℕ) → n - 1 ≤ k → k < LEVELS → tasks_at rings k ≡ []
  none_from n was some within read none above k from low = elim (cases_eq k (n - 1)) [
    | inl e ↦ ap (tasks_at rings) e ∙ sym (read_tasks (n - 1) was (omega arith) read) ∙ empty was.items none
    | inr ne ↦ above k (omega arith) low
  ]
    where
      empty : (xs : List ℕ) → length xs ≡ 0 → xs ≡ []
      empty [] e = refl
      empty (x ∷ xs) e = absurd (omega arith)

-- the level that was found is one of the levels
pub low_top : (q : Queues) (l : ℕ) → Some l ≡ top_level q → l < LEVELS
low_top q l top = let t = top_below-is LEVELS q l (sym top) in t.below
