-- What the steps on the open loops and records make of the innermost one, which stands behind the others.
use Rattle.std.proofs.Common.{◌≡◌, ℕ, zero, suc, ◌+◌, ◌-◌, ◌%◌, ◌<◌, ◌≤◌, List, [], ◌∷◌, ◌++◌, length, get_or, take, drop, set, replicate, sym, refl, ap, ◌∙◌, append_assoc, arith}
use Rattle.std.proofs.Common.{length-append, length-take, get_or-take, get_or-append-add, drop_at, take_at}
use lib.ListN.{length-replicate, replicate-append-replicate}
use Rattle.meaning.specs.Limits.{depth_limit, open_limit}
use Rattle.state.specs.declared.bounds.Bounds.{Bounds}
use Rattle.state.specs.declared.open.Passed.{Passed}
use Rattle.state.specs.declared.open.Frame.{Frame}
use Rattle.state.specs.declared.sums.Sums.{Sums}
use Rattle.state.specs.Bounds.{no_bounds, plus}
use Rattle.state.specs.Open.{kept_limit, blanked, filled, nothing_passed, blank_frame}
use Rattle.state.specs.Sums.{with_sums}
use Rattle.state.specs.Frames.{frame_with, arm_joins, trip_joins, frame_in, with_frame, frame_opened, frame_left, sums_around, passed_around, arm_passed, trip_passed}
use Rattle.state.specs.Kept.{kept_room, kept_from, trip_kept, forgotten}
use Rattle.state.proofs.KeptLaws.{room_within}

-- ---- elements behind others

module _ {A : Type 0} (xs ys : List A) where
  -- element j of what follows
  pub get_d-behind : (n j : ℕ) (d : A) → n ≡ length xs + j → get_or (xs ++ ys) n d ≡ get_or ys j d
  get_d-behind n j d e = ap (λ (m : ℕ). get_or (xs ++ ys) m d) e ∙ get_or-append-add xs ys j d

set-append : {A : Type 0} (xs ys : List A) (j : ℕ) (v : A) → set (xs ++ ys) (length xs + j) v ≡ xs ++ set ys j v
set-append [] ys j v = ap (λ (m : ℕ). set ys m v) (let e : 0 + j ≡ j = omega arith in e)
set-append {A} (x ∷ xs) ys j v =
    ap (λ (m : ℕ). set (x ∷ (xs ++ ys)) m v) (let e : suc (length xs) + j ≡ suc (length xs + j) = omega arith in e)
    ∙ ap {B = List A} (λ zs. x ∷ zs) (set-append xs ys j v)

pub set-behind : {A : Type 0} (xs ys : List A) (n j : ℕ) (v : A) → n ≡ length xs + j → set (xs ++ ys) n v ≡ xs ++ set ys j v
set-behind xs ys n j v e = ap (λ (m : ℕ). set (xs ++ ys) m v) e ∙ set-append xs ys j v

-- elements behind others become blank
pub blanked-behind : {A : Type 0} (blank : A) (xs ys : List A) (from n : ℕ) → from ≡ length xs → blanked blank (xs ++ ys) from n ≡ xs ++ (replicate n blank ++ drop n ys)
unfolding blanked
blanked-behind blank xs ys from n e = λ i. take_at xs ys from (sym e) i ++ (replicate n blank ++ drop n (drop_at xs ys from (sym e) i))

-- ---- lists filled with blank elements

module _ {A : Type 0} (blank : A) where
  pub joined-blanks : (m n k : ℕ) → k ≡ m + n → replicate m blank ++ replicate n blank ≡ replicate k blank
  joined-blanks m n k e = replicate-append-replicate m n blank ∙ ap (λ (i : ℕ). replicate i blank) (sym e)

  pub filled-length : (n : ℕ) (xs : List A) → length (filled blank n xs) ≡ n
  unfolding filled
  filled-length n xs =
      length-take n (xs ++ replicate n blank) ∙ (let k = length-append xs (replicate n blank) in let z = length-replicate n blank in omega arith)

  -- a short list is filled
  pub filled-short : (n m : ℕ) (xs : List A) → length xs + m ≡ n → filled blank n xs ≡ xs ++ replicate m blank
  unfolding filled
  filled-short n m xs e =
      ap (λ ys. take n (xs ++ ys)) (sym (joined-blanks m (length xs) n (omega arith)))
      ∙ ap (take n) (sym (append_assoc xs (replicate m blank) (replicate (length xs) blank)))
      ∙ take_at (xs ++ replicate m blank) (replicate (length xs) blank) n
      (let k = length-append xs (replicate m blank) in let z = length-replicate m blank in omega arith)

  -- an element of a filled list
  pub filled_at : (n : ℕ) (xs : List A) (i : ℕ) → i < n → get_or (filled blank n xs) i blank ≡ get_or xs i blank
  unfolding filled
  filled_at n xs i h = get_or-take n (xs ++ replicate n blank) i blank h ∙ extended xs n i
    where
      none : (n i : ℕ) → get_or (replicate n blank) i blank ≡ blank
      none zero i = refl
      none (suc n) zero = refl
      none (suc n) (suc i) = none n i

      extended : (xs : List A) (n i : ℕ) → get_or (xs ++ replicate n blank) i blank ≡ get_or xs i blank
      extended [] n i = none n i
      extended (x ∷ xs) n zero = refl
      extended (x ∷ xs) n (suc i) = extended xs n i

  -- one element, behind others, of a filled list
  module _ (n : ℕ) (xs : List A) (place : ℕ) (behind : length xs ≡ place) (room : place < n) where
    -- it and what is left
    pub filled-top : (x : A) → filled blank n (xs ++ (x ∷ [])) ≡ xs ++ (x ∷ replicate (n - suc place) blank)
    filled-top x =
        filled-short n (n - suc place) (xs ++ (x ∷ [])) (omega (arith, length-append xs (x ∷ [])))
        ∙ append_assoc xs (x ∷ []) (replicate (n - suc place) blank)

    -- a blank one is none
    pub top-blank : filled blank n (xs ++ (blank ∷ [])) ≡ filled blank n xs
    top-blank =
        let more : suc (n - suc place) ≡ n - place = omega arith in
        filled-top blank ∙ ap (λ (m : ℕ). xs ++ replicate m blank) more ∙ sym (filled-short n (n - place) xs (omega arith))

    pub top-read : (x : A) → get_or (filled blank n (xs ++ (x ∷ []))) place blank ≡ x
    top-read x =
        ap (λ ys. get_or ys place blank) (filled-top x) ∙ get_d-behind xs (x ∷ replicate (n - suc place) blank) place 0 blank (omega arith)

    pub top-set : (x y : A) → set (filled blank n (xs ++ (x ∷ []))) place y ≡ filled blank n (xs ++ (y ∷ []))
    top-set x y =
        ap (λ ys. set ys place y) (filled-top x) ∙ set-behind xs (x ∷ replicate (n - suc place) blank) place 0 y (omega arith)
        ∙ sym (filled-top y)

-- ---- frames: that of the innermost open record, behind those of the records around it

abbrev pub all_frames : List Frame → List Frame
all_frames = filled blank_frame open_limit

module _ (xs : List Frame) (number : ℕ) (behind : length xs ≡ number) (room : number < open_limit) where
  frame-read : (f : Frame) → frame_in (all_frames (xs ++ (f ∷ []))) number ≡ f
  frame-read f =
      let e : number % open_limit ≡ number = omega arith in
      ap (λ (n : ℕ). get_or (all_frames (xs ++ (f ∷ []))) n blank_frame) e ∙ top-read blank_frame open_limit xs number behind room f

  frame-set : (f g : Frame) → with_frame (all_frames (xs ++ (f ∷ []))) number g ≡ all_frames (xs ++ (g ∷ []))
  frame-set f g =
      let e : number % open_limit ≡ number = omega arith in
      ap (λ (n : ℕ). set (all_frames (xs ++ (f ∷ []))) n g) e ∙ top-set blank_frame open_limit xs number behind room f g

  frame-none : all_frames (xs ++ (blank_frame ∷ [])) ≡ all_frames xs
  frame-none = top-blank blank_frame open_limit xs number behind room

  pub frame-opened : (around : Bounds) → frame_opened (all_frames xs) number around ≡ all_frames (xs ++ (frame_with around nothing_passed ∷ []))
  unfolding frame_opened
  frame-opened around =
      ap (λ fs. with_frame fs number (frame_with around (frame_in fs number).passed)) (sym frame-none)
      ∙ ap (λ (f : Frame). with_frame (all_frames (xs ++ (blank_frame ∷ []))) number (frame_with around f.passed)) (frame-read blank_frame)
      ∙ frame-set blank_frame (frame_with around nothing_passed)

  module _ (around : Bounds) (passed : Passed) where
    abbrev with_top : List Frame
    with_top = all_frames (xs ++ (frame_with around passed ∷ []))

    -- another frame in its place, made from it
    changed : (to : Frame → Frame) → with_frame with_top number (to (frame_in with_top number)) ≡ all_frames (xs ++ (to (frame_with around passed) ∷ []))
    changed to =
        ap (λ (f : Frame). with_frame with_top number (to f)) (frame-read (frame_with around passed))
        ∙ frame-set (frame_with around passed) (to (frame_with around passed))

    -- the open trip joins those visited before
    pub trip-joins : (trip : Bounds) → trip_passed with_top number trip ≡ all_frames (xs ++ (frame_with around (trip_joins passed trip) ∷ []))
    unfolding trip_passed
    trip-joins trip = changed (λ f. frame_with f.around (trip_joins f.passed trip))

    -- the open arm joins those passed before
    pub arm-joins : (arm : Bounds) → arm_passed with_top number arm ≡ all_frames (xs ++ (frame_with around (arm_joins passed arm) ∷ []))
    unfolding arm_passed
    arm-joins arm = changed (λ f. frame_with f.around (arm_joins f.passed arm))

    -- the frame is left
    pub frame-blanked : frame_left with_top number ≡ all_frames xs
    unfolding frame_left
    frame-blanked = changed (λ f. blank_frame) ∙ frame-none

    -- and a sum, or what it passed, goes to what is around it
    pub sums-around : (more : Bounds) (s : Sums) → sums_around with_top number more s ≡ with_sums s (plus around more)
    unfolding sums_around
    sums-around more s = ap (λ (f : Frame). with_sums s (plus f.around more)) (frame-read (frame_with around passed))

    pub passed-around : (s : Sums) → passed_around with_top number s ≡ with_sums s (plus around passed.bounds)
    unfolding passed_around sums_around
    passed-around s = ap (λ (f : Frame). with_sums s (plus f.around f.passed.bounds)) (frame-read (frame_with around passed))

-- ---- counters

abbrev pub all_counters : List ℕ → List ℕ
all_counters = filled 0 depth_limit

module _ (xs : List ℕ) (depth : ℕ) (behind : length xs ≡ depth) (room : depth < depth_limit) where
  -- a loop that is not open has the counter 0
  pub counter-blank : all_counters (xs ++ (0 ∷ [])) ≡ all_counters xs
  counter-blank = top-blank 0 depth_limit xs depth behind room

  pub counter-top : (n : ℕ) → get_or (all_counters (xs ++ (n ∷ []))) depth 0 ≡ n
  counter-top = top-read 0 depth_limit xs depth behind room

  pub counter-set : (n v : ℕ) → set (all_counters (xs ++ (n ∷ []))) depth v ≡ all_counters (xs ++ (v ∷ []))
  counter-set = top-set 0 depth_limit xs depth behind room

-- ---- kept trips

abbrev pub all_kept : List Bounds → List Bounds
all_kept = filled no_bounds kept_limit

module _ (xs : List Bounds) (depth : ℕ) (behind : length xs ≡ kept_from depth) (room : depth < depth_limit) where
  -- with the kept trips of one loop more
  abbrev pub kept_with : List Bounds → List Bounds
  kept_with ys = all_kept (xs ++ filled no_bounds (kept_room depth) ys)

  -- what is left behind the trips of the loops around it
  abbrev left : ℕ
  left = kept_limit - kept_from depth

  abbrev none : ℕ → List Bounds
  none n = replicate n no_bounds

  pub kept_top : (ys : List Bounds) → length ys ≤ kept_room depth → kept_with ys ≡ xs ++ (ys ++ none (left - length ys))
  kept_top ys fits =
      let p : ℕ = kept_room depth - length ys in
      let q : ℕ = left - kept_room depth in
      let few = room_within depth room in
      let all = length-append xs (ys ++ none p) in
      let own = length-append ys (none p) in
      let z = length-replicate p no_bounds in
      ap (λ zs. all_kept (xs ++ zs)) (filled-short no_bounds (kept_room depth) p ys (omega arith))
      ∙ filled-short no_bounds kept_limit q (xs ++ (ys ++ none p)) (omega arith)
      ∙ append_assoc xs (ys ++ none p) (none q)
      ∙ ap (λ zs. xs ++ zs) (append_assoc ys (none p) (none q) ∙ ap (λ zs. ys ++ zs) (joined-blanks no_bounds p q (left - length ys) (omega arith)))

  -- a loop of which nothing is kept
  pub kept-blank : kept_with [] ≡ all_kept xs
  kept-blank =
      let few = room_within depth room in
      kept_top [] (omega arith) ∙ ap (λ (n : ℕ). xs ++ none n) (let e : left - 0 ≡ left = omega arith in e)
      ∙ sym (filled-short no_bounds kept_limit left xs (omega arith))

  -- one more trip is kept
  pub trip-kept : (ys : List Bounds) (held : ℕ) (trip : Bounds) → length ys ≡ held → length ys + 1 ≤ kept_room depth →
      trip_kept (kept_with ys) depth held trip ≡ kept_with (ys ++ (trip ∷ []))
  unfolding trip_kept
  trip-kept ys held trip e fits =
      let few = room_within depth room in
      let zs : List Bounds = none (left - (length ys + 1)) in
      let at : ℕ = kept_from depth + held in
      let one : left - length ys ≡ suc (left - (length ys + 1)) = omega arith in
      let longer = length-append ys (trip ∷ []) in
      let all : left - length (ys ++ (trip ∷ [])) ≡ left - (length ys + 1) = omega arith in
      ap (λ ns. set ns at trip) (kept_top ys (omega arith) ∙ ap (λ (n : ℕ). xs ++ (ys ++ none n)) one)
      ∙ set-behind xs (ys ++ (no_bounds ∷ zs)) at held trip (omega arith)
      ∙ ap (λ ns. xs ++ ns) (set-behind ys (no_bounds ∷ zs) held 0 trip (omega arith))
      ∙ sym
      (kept_top (ys ++ (trip ∷ [])) (omega arith)
      ∙ ap (λ ns. xs ++ ns)
      (append_assoc ys (trip ∷ []) (none (left - length (ys ++ (trip ∷ [])))) ∙ ap (λ (n : ℕ). ys ++ (trip ∷ none n)) all))

  -- the kept trips of a loop that is left
  pub kept-forgotten : (ys : List Bounds) (held : ℕ) → length ys ≡ held → length ys ≤ kept_room depth → forgotten (kept_with ys) depth held ≡ all_kept xs
  unfolding forgotten
  kept-forgotten ys held e fits =
      let few = room_within depth room in
      let m : ℕ = left - length ys in
      ap (λ ns. blanked no_bounds ns (kept_from depth) held) (kept_top ys fits)
      ∙ blanked-behind no_bounds xs (ys ++ none m) (kept_from depth) held (sym behind)
      ∙ ap (λ ns. xs ++ (none held ++ ns)) (drop_at ys (none m) held e)
      ∙ ap (λ ns. xs ++ ns) (joined-blanks no_bounds held m left (omega arith)) ∙ sym (filled-short no_bounds kept_limit left xs (omega arith))
