-- Where a state stands that adds up and is in its place: its record's row, its opener's row, room for what opens, and its struct.
use mathlib.Core.List.{◌++◌, List, [], ◌∷◌}
use mathlib.Core.Option.{Option}
use mathlib.Core.Path.{ap, ap₂, refl, subst, sym, ◌∙◌, ◌≡◌}
use Prim.Native.Nat.{◌%◌, ◌+◌, ◌-◌, ◌<◌, ◌^◌, suc, zero, ℕ, ◌≤◌}
use native.Mathlib.Omega.{arith}
use native.Mathlib.Nat.{mod-eq_of_lt}
use lib.ListN.{length, length-append}
use lib.IntN.{ℤ}
use Rattle.meaning.specs.Time.{Bounds, time}
use Rattle.meaning.specs.Stage.{Frame, KeptArms, Step, after_end, choice_frame, loop_frame, state_keeping, State}
use Rattle.meaning.specs.Record.{Loop, stride_size, Record, choice_record, end_record, loop_record, Open}
use Rattle.meaning.specs.Limits.{depth_limit, open_limit, record_limit}
use Rattle.meaning.specs.Tree.{height, records, tree}
use Rattle.meaning.specs.Stage as Meaning
use Rattle.meaning.proofs.Levels.{AddsUp, Total, total_at_most}
use Rattle.meaning.proofs.Accepted.{InPlace, loop-in-range}
use Rattle.meaning.proofs.Trees.{after_end-records, tree-before-end}
use Rattle.layout.specs.Rows.{after_end_at, frame_at, opener_at}
use Rattle.nest.specs.Rows.{end_number, innermost}
use Rattle.nest.specs.Walk.{records_inside}
use Rattle.nest.proofs.Places.{choice-in-place, in-place-through, loop-body, loop-in-place}
use Rattle.nest.proofs.Walks.{opens_through}
use Rattle.nest.proofs.RowsOf.{records_inside-body}
use Rattle.loops.proofs.Sizes.{stride-moves}
use Rattle.state.specs.Bounds.{no_bounds}
use Rattle.state.specs.Open.{filled}
use Rattle.state.specs.Kept.{kept_from, kept_room}
use Rattle.state.proofs.Innermost.{filled-length}
use Rattle.state.proofs.KeptLaws.{room-behind}
use Rattle.passing.specs.Pass.{Passage, begins, goes_on}
use Rattle.stages.specs.Represent.{counter_numbers, kept_of, struct_of}
use Rattle.stages.specs.Laws.{defined_visits}
use Rattle.stages.proofs.Steps.{Fits, open_loops, standing}
use Rattle.stages.proofs.Places.{Framed, Placed, PlacedAt, Stands, opens_of}
use Rattle.stages.proofs.PlanLaws.{KnownPlan, RowIs, loops-count, row_is}
use Rattle.stages.proofs.Affine.{enclosing_of}

-- ---- counts of frames

opens-count : (fs : List Frame) → length (opens_of fs) ≡ length fs
unfolding opens_of
opens-count [] = refl
opens-count (loop_frame l body counter sums enclosing ∷ fs) = ap suc (opens-count fs)
opens-count (choice_frame passed enclosing ∷ fs) = ap suc (opens-count fs)

pub kept-length : (ps : List ℤ) (fs : List Frame) → open_loops fs ≤ depth_limit → length (kept_of ps fs) ≡ kept_from (open_loops fs)
unfolding kept_of counter_numbers
kept-length ps [] h = unfold kept_from in refl
kept-length ps (loop_frame l body counter sums enclosing ∷ fs) h =
    let d : ℕ = open_loops fs in
    let one : length (counter_numbers fs ++ (counter ∷ [])) ≡ suc d = let k = length-append (counter_numbers fs) (counter ∷ []) in omega arith in
    let i = kept-length ps fs (omega arith) in
    length-append (kept_of ps fs) (filled no_bounds (kept_room d) _) ∙ ap₂ ◌+◌ i (filled-length no_bounds (kept_room d) _) ∙ room-behind d (omega arith) ∙ ap kept_from (sym one)
kept-length ps (choice_frame passed enclosing ∷ fs) h = kept-length ps fs h

-- what passing comes to
unfoldable pub passage_of : List ℤ → List Record → Step → Passage
passage_of ps rs (Meaning.going t) = goes_on (open_loops t.frames) (struct_of ps rs t)
passage_of ps rs (Meaning.begins_visit t) = begins (open_loops t.frames) (struct_of ps rs t)
passage_of ps rs (Meaning.at_end t) = goes_on (open_loops t.frames) (struct_of ps rs t)
passage_of ps rs (Meaning.stuck t) = goes_on (open_loops t.frames) (struct_of ps rs t)

module _ {ps : List ℤ} {rs : List Record} {rows differences limits : List ℕ} (known : KnownPlan ps rs rows differences limits) where
  abbrev pub whole : Bounds
  whole = time ps (tree rs) []

  -- ---- what is open fits in 64 bits

  pub total-fits : (fs : List Frame) (tail : List Record) (total : Bounds) (count : ℕ) (arms : KeptArms) → Total ps whole (defined_visits ps rs) fs tail total count arms → Fits total
  total-fits fs tail total count arms h =
      let i = total_at_most ps whole (defined_visits ps rs) known.ordered fs tail total count arms h in
      record { least_fits = omega (arith, i.0, i.1, known.small_most); most_fits = omega (arith, i.1, known.small_most) }

  pub current-fits : (s : Meaning.State) → AddsUp ps whole (defined_visits ps rs) s → Fits s.current
  current-fits s h =
      let i = total-fits s.frames h.tail _ _ _ h.level in
      record { least_fits = omega (arith, i.least_fits); most_fits = omega (arith, i.most_fits) }

  -- ---- places

  -- the record where a state stands
  pub stands_here : {r : Record} {ys : List Record} (fs : List Frame) (h : PlacedAt ps rs (r ∷ ys) fs) →
      Stands ps rs r ys (length h.before) (opens_of fs) h.numbers (enclosing_of ps fs)
  stands_here fs h = record { outer = h.before; number = refl; split = h.split; leaves = h.leaves }

  pub place_is : (xs ys : List Record) → rs ≡ xs ++ ys → length rs - length ys ≡ length xs
  place_is xs ys e = omega (arith, ap (λ (zs : List Record). length zs) e, length-append xs ys)

  pub place-next : (xs : List Record) (r : Record) (ys : List Record) → rs ≡ xs ++ (r ∷ ys) → length rs - length ys ≡ length xs + 1
  place-next xs r ys e = omega (arith, ap (λ (zs : List Record). length zs) e, length-append xs (r ∷ ys))

  in_place : {r : Record} {ys : List Record} {n : ℕ} (fs : List Frame) {ns : List ℕ} → Stands ps rs r ys n (opens_of fs) ns (enclosing_of ps fs) → InPlace (opens_of fs) (r ∷ ys)
  in_place {r} {ys} fs h =
      subst (λ os. InPlace os (r ∷ ys)) h.leaves.opens_are (in-place-through h.outer (r ∷ ys) [] (subst (InPlace []) h.split known.placed))

  -- where a loop stands there is room for it
  pub loop-room : {l : Loop} {ys : List Record} {n : ℕ} (fs : List Frame) {ns : List ℕ} → Stands ps rs (loop_record l) ys n (opens_of fs) ns (enclosing_of ps fs) →
      (length fs < open_limit) × (open_loops fs < depth_limit)
  loop-room {l} {ys} fs h =
      let room = loop-in-place l ys (opens_of fs) (in_place fs h) in
      (omega (arith, room.1, opens-count fs), omega (arith, room.0, loops-count fs))

  pub choice-room : {ys : List Record} {n : ℕ} (fs : List Frame) {ns : List ℕ} → Stands ps rs choice_record ys n (opens_of fs) ns (enclosing_of ps fs) → length fs < open_limit
  choice-room {ys} fs h = omega (arith, choice-in-place ys (opens_of fs) (in_place fs h), opens-count fs)

  -- no more loops are open than the limit allows
  pub frames-shallow : (fs : List Frame) (ns : List ℕ) → Framed ps rs fs ns → open_loops fs ≤ depth_limit
  unfolding Framed counter_numbers
  frames-shallow [] ns h = omega arith
  frames-shallow (loop_frame l body counter sums enclosing ∷ fs) [] h = absurd h
  frames-shallow (loop_frame l body counter sums enclosing ∷ fs) (n ∷ ns) h = omega (arith, (loop-room fs h.0).1, length-append (counter_numbers fs) (counter ∷ []))
  frames-shallow (choice_frame passed enclosing ∷ fs) [] h = absurd h
  frames-shallow (choice_frame passed enclosing ∷ fs) (n ∷ ns) h = frames-shallow fs ns h.2

  -- a loop's body and its end: the loops inside it and around it are within the limit
  pub body-shallow : {l : Loop} {body : List Record} {n : ℕ} (fs : List Frame) {ns : List ℕ} → Stands ps rs (loop_record l) body n (opens_of fs) ns (enclosing_of ps fs) →
      height (tree body) + suc (open_loops fs) ≤ depth_limit
  body-shallow {l} {body} fs h =
      let found = loop-body l body (opens_of fs) (in_place fs h) in
      let same : found.body ≡ tree body = sym (ap tree found.split ∙ tree-before-end found.body found.following) in
      omega (arith, found.shallow, ap height same, loops-count fs)

  -- the frame that a row says
  pub frame-of : {n : ℕ} {r : Record} {ys : List Record} (fs : List Frame) {ns : List ℕ} → RowIs known n r ys (opens_of fs) ns → length fs < open_limit → frame_at rows n ≡ length fs
  frame-of fs row room = row.frame_is ∙ ap (λ (m : ℕ). m % open_limit) (opens-count fs) ∙ mod-eq_of_lt room

  pub struct_at : (n : ℕ) (remaining : List Record) (c : Bounds) (fs : List Frame) (a : KeptArms) (v : ℕ) → length rs - length remaining ≡ n →
      struct_of ps rs (state_keeping a remaining c fs v) ≡ standing ps n c v fs a
  unfolding struct_of
  struct_at n remaining c fs a v e = ap (λ (m : ℕ). standing ps m c v fs a) e

  -- the row of the record where a state stands
  pub row_here : {r : Record} {ys : List Record} (fs : List Frame) (h : PlacedAt ps rs (r ∷ ys) fs) → RowIs known (length h.before) r ys (opens_of fs) h.numbers
  row_here fs h = row_is known (stands_here fs h)

  -- ---- openers

  -- the record that opened the innermost frame: its number, what followed it, and what was open
  pub record Opener (n : ℕ) (r : Record) (following : List Record) (fs : List Frame) : Type 0 where
    pub number : ℕ
    pub outer_numbers : List ℕ
    pub found : opener_at rows n ≡ number
    pub stands : Stands ps rs r following number (opens_of fs) outer_numbers (enclosing_of ps fs)
    pub framed : Framed ps rs fs outer_numbers

  pub opener-found : {r : Record} {ys : List Record} {m : ℕ} (n : ℕ) (fs : List Frame) {ns : List ℕ} → Stands ps rs r ys m (opens_of fs) ns (enclosing_of ps fs) →
      opener_at rows n ≡ (suc m - 1) % record_limit → opener_at rows n ≡ m
  opener-found {r} {ys} {m} n fs h e =
      let below : m < record_limit = omega (arith, (row_is known h).below, known.short) in
      e ∙ ap (λ (i : ℕ). i % record_limit) (let z : suc m - 1 ≡ m = omega arith in z) ∙ mod-eq_of_lt below

  pub choice-opener : {r : Record} {ys : List Record} {passed : Option Bounds} {enclosing : Bounds} (fs : List Frame) (h : PlacedAt ps rs (r ∷ ys) (choice_frame passed enclosing ∷ fs)) →
      (following : List Record) × Opener (length h.before) choice_record following fs
  choice-opener {r} {ys} {passed} {enclosing} fs h = go h.numbers h.framed (row_here (choice_frame passed enclosing ∷ fs) h).opener_is
    where
      go : (ns : List ℕ) → Framed ps rs (choice_frame passed enclosing ∷ fs) ns → opener_at rows (length h.before) ≡ (innermost ns - 1) % record_limit →
          (following : List Record) × Opener (length h.before) choice_record following fs
      go [] framed e = unfold Framed in absurd framed
      go (n ∷ ns) framed e = unfold Framed innermost in
          (framed.0, record { number = n; outer_numbers = ns; found = opener-found (length h.before) fs framed.1 e; stands = framed.1; framed = framed.2 })

  pub loop-opener : {r : Record} {ys : List Record} {l : Loop} {body : List Record} {j : ℕ} {sums : List Bounds} {enclosing : Bounds} (fs : List Frame)
      (h : PlacedAt ps rs (r ∷ ys) (loop_frame l body j sums enclosing ∷ fs)) → Opener (length h.before) (loop_record l) body fs
  loop-opener {r} {ys} {l} {body} {j} {sums} {enclosing} fs h = go h.numbers h.framed (row_here (loop_frame l body j sums enclosing ∷ fs) h).opener_is
    where
      go : (ns : List ℕ) → Framed ps rs (loop_frame l body j sums enclosing ∷ fs) ns → opener_at rows (length h.before) ≡ (innermost ns - 1) % record_limit →
          Opener (length h.before) (loop_record l) body fs
      go [] framed e = unfold Framed in absurd framed
      go (n ∷ ns) framed e = unfold Framed innermost in record { number = n; outer_numbers = ns; found = opener-found (length h.before) fs framed.0 e; stands = framed.0; framed = framed.1 }

  -- where the stage goes on after a loop without a trip
  pub place_after : {l : Loop} {ys : List Record} (fs : List Frame) (h : PlacedAt ps rs (loop_record l ∷ ys) fs) → length rs - length (after_end zero ys) ≡ after_end_at rows (length h.before)
  unfolding end_number after_end
  place_after {l} {ys} fs h =
      let n : ℕ = length h.before in
      let here = in-place-through h.before (loop_record l ∷ ys) [] (subst (InPlace []) h.split known.placed) in
      let found = loop-body l ys (opens_through [] h.before) here in
      let inside : records_inside zero ys ≡ length (records found.body) = ap (records_inside zero) found.split ∙ records_inside-body found.body found.following in
      let rest : length (after_end zero ys) ≡ length found.following =
      ap (λ (xs : List Record). length (after_end zero xs)) found.split ∙ ap (λ (xs : List Record). length xs) (after_end-records found.body zero (end_record ∷ found.following)) in
      let all = ap (λ (xs : List Record). length xs) h.split in
      let parts = ap (λ (xs : List Record). length xs) found.split in
      let sizes = length-append h.before (loop_record l ∷ ys) in
      let inner = length-append (records found.body) (end_record ∷ found.following) in
      let within-sheet : (suc n + records_inside zero ys) % record_limit ≡ suc n + records_inside zero ys = mod-eq_of_lt (omega (arith, known.short)) in
      let row = (row_here fs h).after_end_is in
      omega arith

  -- every stride moves
  pub loop-moves : {l : Loop} {ys : List Record} (fs : List Frame) → PlacedAt ps rs (loop_record l ∷ ys) fs → 0 < stride_size l
  unfolding InPlace
  loop-moves {l} {ys} fs h =
      let os : List Open = opens_through [] h.before in
      let here = in-place-through h.before (loop_record l ∷ ys) [] (subst (InPlace []) h.split known.placed) in
      stride-moves (loop-in-range os l here.2)

  -- ---- regular states

  -- a state that adds up and stands in its place, with room for one visit more
  pub record Regular (s : Meaning.State) : Type 0 where
    pub adds : AddsUp ps whole (defined_visits ps rs) s
    pub place : Placed ps rs s
    pub few : suc s.visits < 2 ^ 64
