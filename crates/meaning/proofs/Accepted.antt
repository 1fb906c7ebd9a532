-- What the reader accepts: records in place, with fields in range, at most record_limit, whose tree has just these records and is sound.
use mathlib.Core.Path.{◌≡◌, refl, sym, ap, ◌∙◌, subst}
use mathlib.Core.List.{List, [], ◌∷◌, ◌++◌, append_assoc}
use mathlib.Core.Bool.{true, false, ◌&&◌}
use mathlib.Core.Option.{some}
use Prim.Native.Nat.{ℕ, zero, suc, ◌+◌, ◌≤◌}
use native.Mathlib.Omega.{arith}
use lib.ListN.{length, take, drop}
use lib.Dec.{T, leb, ltb, eqb, leb→le, ltb→lt, eqb→eq}
use Rattle.meaning.specs.Limits.{record_limit, depth_limit, open_limit, cost_limit, stride_limit, constant_half, index_factors, parameter_factors}
use Rattle.meaning.specs.Number.{has_pattern}
use Rattle.meaning.specs.Form.{Form, all_zero, factors_fit, form_in_range}
use Rattle.meaning.specs.Record.{Kind, work_kind, loop_kind, end_kind, choice_kind, next_arm_kind, kind_of, body_length}
use Rattle.meaning.specs.Record.{Loop, stride_size, is_given, skip_where, skip_cycles, Record, work_record, loop_record, end_record, choice_record, next_arm_record, kind, record_length, decode_record}
use Rattle.meaning.specs.Record.{Open, open_loop, open_choice, loop_depth, fields_in_range, open_after}
use Rattle.meaning.specs.Reader.{read_from_of, read_record_of, Result, ok, or_refuse, Accepted, accept, read_record, end_of_sheet, read_from, read}
use Rattle.meaning.specs.Tree.{Block, Arms, work, loop, choice, last_arm, arm, Segments, final, before_end, before_next_arm, on_first}
use Rattle.meaning.specs.Tree.{take_body, take_arms, segments, first_segment, tree, records, arms_records, height, arms_height}
use Rattle.meaning.specs.Time.{entry_cost}
use Rattle.meaning.proofs.Logic.{T_and, refused-is-not-ok, and_then-ok, require-ok, or_refuse-ok, and_then-yes, require-yes, or_refuse-yes, test-passed, nil-is-not-cons}
use Rattle.meaning.proofs.Sound.{WorkSound, LoopSound, Sound, ArmsSound}

-- ---- one record

-- the record r, accepted at a byte of kind before further bytes, where os is open before it and `after` after it
pub record IsAccepted (os : List Open) (kind_byte : ℕ) (bytes : List ℕ) (r : Record) (after : List Open) : Type 0 where
  pub kind_named : kind_of kind_byte ≡ some (kind r)
  pub body_there : body_length (kind r) ≤ length bytes
  pub decoded : decode_record (kind r) (take (body_length (kind r)) bytes) ≡ r
  pub in_range : T (fields_in_range os r)
  pub leaves_open : open_after os r ≡ some after

pub kind-decode_record : (k : Kind) (body : List ℕ) → kind (decode_record k body) ≡ k
unfolding kind is_given decode_record skip_where
kind-decode_record work_kind body = refl
kind-decode_record (loop_kind false) body = refl
kind-decode_record (loop_kind true) body = refl
kind-decode_record end_kind body = refl
kind-decode_record choice_kind body = refl
kind-decode_record next_arm_kind body = refl

pub accept-ok : (at : ℕ) (os : List Open) (r : Record) (a : Accepted) → accept at os r ≡ ok a →
    (r ≡ a.accepted) × T (fields_in_range os r) × (open_after os r ≡ some a.after)
unfolding accept
accept-ok at os r a e =
    let g = require-ok (fields_in_range os r) 3 at _ a e in
    let o = and_then-ok (or_refuse (open_after os r) 5 at) _ a g.1 in
    let z : record { accepted = r; after = o.0 } ≡ a = cc o.2 in
    (ap (λ (x : Accepted). x.accepted) z, g.0, or_refuse-ok (open_after os r) 5 at o.0 o.1 ∙ ap (λ (x : Accepted). some x.after) z)

pub accept-in-place : (at : ℕ) (os after : List Open) (r : Record) → T (fields_in_range os r) → open_after os r ≡ some after →
    accept at os r ≡ ok (record { accepted = r; after = after })
unfolding accept
accept-in-place at os after r t e =
    require-yes (fields_in_range os r) 3 at _ t ∙ and_then-yes (λ us. ok (record { accepted = r; after = us })) (or_refuse-yes 5 at e)

pub read_record-ok : (at : ℕ) (os : List Open) (k : ℕ) (bytes : List ℕ) (a : Accepted) → read_record at os k bytes ≡ ok a →
    IsAccepted os k bytes a.accepted a.after
unfolding read_record_of
read_record-ok at os k bytes a e =
    let n = and_then-ok (or_refuse (kind_of k) 2 at) _ a e in
    let c : Kind = n.0 in
    let b = require-ok (leb (body_length c) (length bytes)) 1 at _ a n.2 in
    let i = accept-ok at os (decode_record c (take (body_length c) bytes)) a b.1 in
    let same : c ≡ kind a.accepted = sym (kind-decode_record c (take (body_length c) bytes)) ∙ ap kind i.0 in
    record {
      kind_named = or_refuse-ok (kind_of k) 2 at c n.1 ∙ ap some same;
      body_there = leb→le (body_length (kind a.accepted)) (length bytes) (subst (λ (x : Kind). T (leb (body_length x) (length bytes))) same b.0);
      decoded = ap (λ (x : Kind). decode_record x (take (body_length x) bytes)) (sym same) ∙ i.0;
      in_range = subst (λ (x : Record). T (fields_in_range os x)) i.0 i.1;
      leaves_open = ap (open_after os) (sym i.0) ∙ i.2;
    }

-- ---- one record and those after it

pub end_of_sheet-ok : {A : Type 0} (at : ℕ) (os : List Open) (a b : A) → end_of_sheet at os a ≡ ok b → (os ≡ []) × (a ≡ b)
unfolding end_of_sheet
end_of_sheet-ok at [] a b e = (refl, cc)
end_of_sheet-ok at (o ∷ os) a b e = refused-is-not-ok e

-- how r and rs after it are read from bytes, where `left` more records may come
pub record FirstRead (left at : ℕ) (os : List Open) (bytes : List ℕ) (r : Record) (rs : List Record) : Type 0 where
  pub left_after : ℕ
  pub kind_byte : ℕ
  pub following : List ℕ
  pub after : List Open
  pub left_is : left ≡ suc left_after
  pub bytes_are : bytes ≡ kind_byte ∷ following
  pub is_accepted : IsAccepted os kind_byte following r after
  pub others_read : read_from left_after (at + record_length r) after (drop (body_length (kind r)) following) ≡ ok rs

pub read_from-first : (left at : ℕ) (os : List Open) (bytes : List ℕ) (r : Record) (rs : List Record) → read_from left at os bytes ≡ ok (r ∷ rs) →
    FirstRead left at os bytes r rs
unfolding read_from_of
read_from-first zero at os [] r rs e = nil-is-not-cons (end_of_sheet-ok at os [] (r ∷ rs) e).1
read_from-first zero at os (k ∷ bytes) r rs e = refused-is-not-ok e
read_from-first (suc left) at os [] r rs e = nil-is-not-cons (end_of_sheet-ok at os [] (r ∷ rs) e).1
read_from-first (suc left) at os (k ∷ bytes) r rs e =
    let f = and_then-ok (read_record at os k bytes) _ (r ∷ rs) e in
    let a : Accepted = f.0 in
    let n : ℕ = body_length (kind a.accepted) in
    let o = and_then-ok (read_from left (at + record_length a.accepted) a.after (drop n bytes)) _ (r ∷ rs) f.2 in
    let first : a.accepted ≡ r = cc o.2 in
    let others : o.0 ≡ rs = cc o.2 in
    record {
      left_after = left;
      kind_byte = k;
      following = bytes;
      after = a.after;
      left_is = refl;
      bytes_are = refl;
      is_accepted = subst (λ (x : Record). IsAccepted os k bytes x a.after) first (read_record-ok at os k bytes a f.1);
      others_read = subst (λ (x : Record). read_from left (at + record_length x) a.after (drop (body_length (kind x)) bytes) ≡ ok rs) first
          (o.1 ∙ ap {B = Result (List Record)} ok others);
    }

-- where no record is read, no byte is left and nothing is open
pub read_from-none : (left at : ℕ) (os : List Open) (bytes : List ℕ) → read_from left at os bytes ≡ ok [] → (os ≡ []) × (bytes ≡ [])
unfolding read_from_of
read_from-none zero at os [] e = ((end_of_sheet-ok at os [] [] e).0, refl)
read_from-none zero at os (k ∷ bytes) e = refused-is-not-ok e
read_from-none (suc left) at os [] e = ((end_of_sheet-ok at os [] [] e).0, refl)
read_from-none (suc left) at os (k ∷ bytes) e =
    let f = and_then-ok (read_record at os k bytes) _ [] e in
    let a : Accepted = f.0 in
    let o = and_then-ok (read_from left (at + record_length a.accepted) a.after (drop (body_length (kind a.accepted)) bytes)) _ [] f.2 in
    let z : a.accepted ∷ o.0 ≡ [] = cc o.2 in
    nil-is-not-cons (sym z)

-- ---- all records

-- every record is in its place with its fields in range, where os is open before them; nothing is open after them
unfoldable pub InPlace : List Open → List Record → Type 0
InPlace os [] = os ≡ []
InPlace os (r ∷ rs) = (after : List Open) × (open_after os r ≡ some after) × T (fields_in_range os r) × InPlace after rs

pub read_from-in-place : (rs : List Record) (left at : ℕ) (os : List Open) (bytes : List ℕ) → read_from left at os bytes ≡ ok rs → InPlace os rs
unfolding InPlace
read_from-in-place [] left at os bytes e = (read_from-none left at os bytes e).0
read_from-in-place (r ∷ rs) left at os bytes e =
    let f = read_from-first left at os bytes r rs e in
    (f.after, f.is_accepted.leaves_open, f.is_accepted.in_range, read_from-in-place rs f.left_after _ f.after _ f.others_read)

pub read_from-short : (rs : List Record) (left at : ℕ) (os : List Open) (bytes : List ℕ) → read_from left at os bytes ≡ ok rs → length rs ≤ left
read_from-short [] left at os bytes e = omega arith
read_from-short (r ∷ rs) left at os bytes e =
    let f = read_from-first left at os bytes r rs e in
    omega (arith, read_from-short rs f.left_after _ f.after _ f.others_read, f.left_is)

-- document 01: at most record_limit records, each in its place with its fields in range, nothing open at the end
pub record WellFormed (rs : List Record) : Type 0 where
  pub in_place : InPlace [] rs
  pub short : length rs ≤ record_limit

pub read-well-formed : (sheet : List ℕ) (rs : List Record) → read sheet ≡ ok rs → WellFormed rs
unfolding read
read-well-formed sheet rs e = record { in_place = read_from-in-place rs record_limit 0 [] sheet e; short = read_from-short rs record_limit 0 [] sheet e }

pub read-in-place : (sheet : List ℕ) (rs : List Record) → read sheet ≡ ok rs → InPlace [] rs
read-in-place sheet rs e = (read-well-formed sheet rs e).in_place

pub read_short : (sheet : List ℕ) (rs : List Record) → read sheet ≡ ok rs → length rs ≤ record_limit
read_short sheet rs e = (read-well-formed sheet rs e).short

-- ---- what fields in range say

pub record FormInRange (depth : ℕ) (f : Form) : Type 0 where
  pub not_enclosing_zero : T (all_zero (drop depth f.index))
  pub constant_fits : T (has_pattern constant_half f.constant)
  pub index_count : length f.index ≡ index_factors
  pub index_fit : T (factors_fit f.index)
  pub parameter_count : length f.parameter ≡ parameter_factors
  pub parameter_fit : T (factors_fit f.parameter)

pub record LoopInRange (depth : ℕ) (l : Loop) : Type 0 where
  pub start_small : l.start ≤ cost_limit
  pub skip_small : skip_cycles l ≤ cost_limit
  pub step_small : l.step ≤ cost_limit
  pub moves : 1 ≤ stride_size l
  pub stride_small : stride_size l ≤ stride_limit
  pub lower_in_range : FormInRange depth l.lower
  pub upper_in_range : FormInRange depth l.upper

pub form-in-range : (depth : ℕ) (f : Form) → T (form_in_range depth f) → FormInRange depth f
unfolding form_in_range
form-in-range depth f t =
    let z = all_zero (drop depth f.index) in
    let c = has_pattern constant_half f.constant in
    let n = eqb (length f.index) index_factors in
    let i = factors_fit f.index in
    let m = eqb (length f.parameter) parameter_factors in
    let p = factors_fit f.parameter in
    let t5 = T_and (z && c && n && i && m) p t in
    let t4 = T_and (z && c && n && i) m t5.0 in
    let t3 = T_and (z && c && n) i t4.0 in
    let t2 = T_and (z && c) n t3.0 in
    let t1 = T_and z c t2.0 in
    record {
      not_enclosing_zero = t1.0;
      constant_fits = t1.1;
      index_count = eqb→eq (length f.index) index_factors t2.1;
      index_fit = t3.1;
      parameter_count = eqb→eq (length f.parameter) parameter_factors t4.1;
      parameter_fit = t5.1;
    }

pub loop-in-range : (os : List Open) (l : Loop) → T (fields_in_range os (loop_record l)) → LoopInRange (loop_depth os) l
unfolding fields_in_range
loop-in-range os l t =
    let a = leb l.start cost_limit in
    let b = leb l.step cost_limit in
    let m = leb 1 (stride_size l) in
    let s = leb (stride_size l) stride_limit in
    let f = form_in_range (loop_depth os) l.lower in
    let g = form_in_range (loop_depth os) l.upper in
    let k = leb (skip_cycles l) cost_limit in
    let t6 = T_and (a && b && m && s && f && g) k t in
    let t5 = T_and (a && b && m && s && f) g t6.0 in
    let t4 = T_and (a && b && m && s) f t5.0 in
    let t3 = T_and (a && b && m) s t4.0 in
    let t2 = T_and (a && b) m t3.0 in
    let t1 = T_and a b t2.0 in
    record {
      start_small = leb→le l.start cost_limit t1.0;
      skip_small = leb→le (skip_cycles l) cost_limit t6.1;
      step_small = leb→le l.step cost_limit t1.1;
      moves = leb→le 1 (stride_size l) t2.1;
      stride_small = leb→le (stride_size l) stride_limit t3.1;
      lower_in_range = form-in-range (loop_depth os) l.lower t4.1;
      upper_in_range = form-in-range (loop_depth os) l.upper t5.1;
    }

pub work-in-range : (os : List Open) (least most : ℕ) → T (fields_in_range os (work_record least most)) → WorkSound least most
unfolding fields_in_range
work-in-range os least most t =
    let b = T_and (leb least most) (leb most cost_limit) t in
    record { ordered = leb→le least most b.0; most_small = leb→le most cost_limit b.1 }

loop-sound : (depth : ℕ) (l : Loop) → LoopInRange depth l → LoopSound l
loop-sound depth l i = record { moves = i.moves; entry_small = entry; step_small = i.step_small }
  where
    entry : (trips : ℕ) → entry_cost l trips ≤ cost_limit
    entry zero = unfold entry_cost in i.skip_small
    entry (suc n) = unfold entry_cost in i.start_small

-- ---- the segments of records in place

-- each segment is sound, and its loops lie within the depth left where os is open
unfoldable pub SegmentsSound : List Open → Segments → Type 0
SegmentsSound [] (final b) = Sound b × (height b ≤ depth_limit)
SegmentsSound (o ∷ os) (final b) = ⊥
SegmentsSound [] (before_end b s) = ⊥
SegmentsSound (o ∷ os) (before_end b s) = Sound b × (height b + loop_depth (o ∷ os) ≤ depth_limit) × SegmentsSound os s
SegmentsSound [] (before_next_arm b s) = ⊥
SegmentsSound (open_loop ∷ os) (before_next_arm b s) = ⊥
SegmentsSound (open_choice ∷ os) (before_next_arm b s) = Sound b × (height b + loop_depth (open_choice ∷ os) ≤ depth_limit) × SegmentsSound (open_choice ∷ os) s

unfoldable pub segments_records : Segments → List Record
segments_records (final b) = records b
segments_records (before_end b s) = records b ++ (end_record ∷ segments_records s)
segments_records (before_next_arm b s) = records b ++ (next_arm_record ∷ segments_records s)

on_first-sound : (os : List Open) (f : Block → Block) (s : Segments) →
    ((b : Block) → Sound b → height b + loop_depth os ≤ depth_limit → Sound (f b) × (height (f b) + loop_depth os ≤ depth_limit)) →
    SegmentsSound os s → SegmentsSound os (on_first f s)
unfolding SegmentsSound on_first loop_depth
on_first-sound [] f (final b) h (s, n) = let q = h b s (omega arith) in (q.0, omega arith)
on_first-sound (o ∷ os) f (final b) h g = absurd g
on_first-sound [] f (before_end b p) h g = absurd g
on_first-sound (o ∷ os) f (before_end b p) h (s, n, g) = let q = h b s n in (q.0, q.1, g)
on_first-sound [] f (before_next_arm b p) h g = absurd g
on_first-sound (open_loop ∷ os) f (before_next_arm b p) h g = absurd g
on_first-sound (open_choice ∷ os) f (before_next_arm b p) h (s, n, g) = let q = h b s n in (q.0, q.1, g)

on_first-records : (f : Block → Block) (before : List Record) → ((b : Block) → records (f b) ≡ before ++ records b) → (s : Segments) →
    segments_records (on_first f s) ≡ before ++ segments_records s
unfolding segments_records on_first
on_first-records f before h (final b) = h b
on_first-records f before h (before_end b s) =
    ap (λ x. x ++ (end_record ∷ segments_records s)) (h b) ∙ append_assoc before (records b) (end_record ∷ segments_records s)
on_first-records f before h (before_next_arm b s) =
    ap (λ x. x ++ (next_arm_record ∷ segments_records s)) (h b) ∙ append_assoc before (records b) (next_arm_record ∷ segments_records s)

take_body-sound : (os : List Open) (l : Loop) (s : Segments) → LoopSound l → suc (loop_depth os) ≤ depth_limit → SegmentsSound (open_loop ∷ os) s →
    SegmentsSound os (take_body l s) × (segments_records (take_body l s) ≡ loop_record l ∷ segments_records s)
unfolding SegmentsSound take_body loop_depth segments_records
take_body-sound os l (final b) e d g = absurd g
take_body-sound os l (before_end b p) e d (s, n, g) =
    (on_first-sound os (loop l b) p sound g, on_first-records (loop l b) (loop_record l ∷ (records b ++ (end_record ∷ []))) same p ∙ simp append_assoc)
  where
    sound : (r : Block) → Sound r → height r + loop_depth os ≤ depth_limit → Sound (loop l b r) × (height (loop l b r) + loop_depth os ≤ depth_limit)
    sound r sr nr = unfold Sound height in ((e, s, sr), omega arith)

    same : (r : Block) → records (loop l b r) ≡ (loop_record l ∷ (records b ++ (end_record ∷ []))) ++ records r
    same r = unfold records in simp append_assoc
take_body-sound os l (before_next_arm b p) e d g = absurd g

take_arms-sound : (os : List Open) (f : Arms → Arms) (before : List Record) →
    ((arms : Arms) → arms_records (f arms) ≡ before ++ arms_records arms) →
    ((arms : Arms) → ArmsSound arms → arms_height arms + loop_depth os ≤ depth_limit → ArmsSound (f arms) × (arms_height (f arms) + loop_depth os ≤ depth_limit)) →
    (s : Segments) → SegmentsSound (open_choice ∷ os) s →
    SegmentsSound os (take_arms f s) × (segments_records (take_arms f s) ≡ choice_record ∷ (before ++ segments_records s))
unfolding SegmentsSound take_arms loop_depth segments_records
take_arms-sound os f before h k (final b) g = absurd g
take_arms-sound os f before h k (before_end b p) (s, n, g) = (
  on_first-sound os (choice (f (last_arm b))) p sound g,
  on_first-records (choice (f (last_arm b))) (choice_record ∷ (before ++ records b ++ (end_record ∷ []))) same p ∙ simp append_assoc,
)
  where
    sound : (r : Block) → Sound r → height r + loop_depth os ≤ depth_limit →
        Sound (choice (f (last_arm b)) r) × (height (choice (f (last_arm b)) r) + loop_depth os ≤ depth_limit)
    sound r sr nr = unfold Sound height in (let q = k (last_arm b) s n in ((q.0, sr), omega arith))

    same : (r : Block) → records (choice (f (last_arm b)) r) ≡ (choice_record ∷ (before ++ records b ++ (end_record ∷ []))) ++ records r
    same r = unfold records in simp (h (last_arm b), append_assoc)
take_arms-sound os f before h k (before_next_arm b p) (s, n, g) =
    let i = take_arms-sound os (λ arms. f (arm b arms)) (before ++ records b ++ (next_arm_record ∷ [])) same sound p g in
    (i.0, i.1 ∙ simp append_assoc)
  where
    same : (arms : Arms) → arms_records (f (arm b arms)) ≡ (before ++ records b ++ (next_arm_record ∷ [])) ++ arms_records arms
    same arms = h (arm b arms) ∙ unfold records in simp append_assoc

    sound : (arms : Arms) → ArmsSound arms → arms_height arms + loop_depth os ≤ depth_limit →
        ArmsSound (f (arm b arms)) × (arms_height (f (arm b arms)) + loop_depth os ≤ depth_limit)
    sound arms sa na = k (arm b arms) (unfold Sound in (s, sa)) (unfold height in omega arith)

loop_depth-tail : (o : Open) (os : List Open) → loop_depth os ≤ loop_depth (o ∷ os)
unfolding loop_depth
loop_depth-tail open_loop os = omega arith
loop_depth-tail open_choice os = omega arith

-- the segments of records in place are sound and hold just these records
pub segments-sound : (os : List Open) (rs : List Record) → loop_depth os ≤ depth_limit → InPlace os rs →
    SegmentsSound os (segments rs) × (segments_records (segments rs) ≡ rs)
unfolding InPlace segments SegmentsSound segments_records Sound height records open_after loop_depth
segments-sound [] [] n h = ((tt, omega arith), refl)
segments-sound (o ∷ os) [] n h = absurd (let z : ◌≡◌ {A = ℕ} 0 1 = cc in omega arith)
segments-sound os (work_record least most ∷ rs) n (after, e, f, h) =
    let z : os ≡ after = cc in
    let i = segments-sound os rs n (subst (λ x. InPlace x rs) (sym z) h) in (
      on_first-sound os (work least most) (segments rs) (λ r s m. ((work-in-range os least most f, s), m)) i.0,
      on_first-records (work least most) (work_record least most ∷ []) (λ r. refl) (segments rs) ∙ ap (λ x. work_record least most ∷ x) i.1,
    )
segments-sound os (loop_record l ∷ rs) n (after, e, f, h) =
    let c = test-passed (ltb (loop_depth os) depth_limit && ltb (length os) open_limit) (open_loop ∷ os) after e in
    let d : suc (loop_depth os) ≤ depth_limit = ltb→lt (loop_depth os) depth_limit (T_and (ltb (loop_depth os) depth_limit) (ltb (length os) open_limit) c.0).0 in
    let i = segments-sound (open_loop ∷ os) rs d (subst (λ x. InPlace x rs) (sym c.1) h) in
    let g = take_body-sound os l (segments rs) (loop-sound (loop_depth os) l (loop-in-range os l f)) d i.0 in
    (g.0, g.1 ∙ ap (λ x. loop_record l ∷ x) i.1)
segments-sound [] (end_record ∷ rs) n (after, e, f, h) = absurd (let z : ◌≡◌ {A = ℕ} 0 1 = cc in omega arith)
segments-sound (o ∷ os) (end_record ∷ rs) n (after, e, f, h) =
    let z : os ≡ after = cc in
    let i = segments-sound os rs (omega (arith, loop_depth-tail o os)) (subst (λ x. InPlace x rs) (sym z) h) in
    ((tt, omega arith, i.0), ap (λ x. end_record ∷ x) i.1)
segments-sound os (choice_record ∷ rs) n (after, e, f, h) =
    let c = test-passed (ltb (length os) open_limit) (open_choice ∷ os) after e in
    let i = segments-sound (open_choice ∷ os) rs n (subst (λ x. InPlace x rs) (sym c.1) h) in
    let g = take_arms-sound os (λ arms. arms) [] (λ arms. refl) (λ arms s m. (s, m)) (segments rs) i.0 in
    (g.0, g.1 ∙ ap (λ x. choice_record ∷ x) i.1)
segments-sound [] (next_arm_record ∷ rs) n (after, e, f, h) = absurd (let z : ◌≡◌ {A = ℕ} 0 1 = cc in omega arith)
segments-sound (open_loop ∷ os) (next_arm_record ∷ rs) n (after, e, f, h) = absurd (let z : ◌≡◌ {A = ℕ} 0 1 = cc in omega arith)
segments-sound (open_choice ∷ os) (next_arm_record ∷ rs) n (after, e, f, h) =
    let z : open_choice ∷ os ≡ after = cc in
    let i = segments-sound (open_choice ∷ os) rs n (subst (λ x. InPlace x rs) (sym z) h) in
    ((tt, omega arith, i.0), ap (λ x. next_arm_record ∷ x) i.1)

-- ---- the tree

-- b is a sound tree with just the records rs and loops at most 4 deep
pub record Formed (rs : List Record) (b : Block) : Type 0 where
  pub sound : Sound b
  pub deep : height b ≤ depth_limit
  pub same : records b ≡ rs

first-formed : (rs : List Record) (s : Segments) → SegmentsSound [] s → segments_records s ≡ rs → Formed rs (first_segment s)
unfolding SegmentsSound segments_records first_segment
first-formed rs (final b) (s, n) e = record { sound = s; deep = n; same = e }
first-formed rs (before_end b p) g e = absurd g
first-formed rs (before_next_arm b p) g e = absurd g

pub in-place-formed : (rs : List Record) → InPlace [] rs → Formed rs (tree rs)
unfolding tree loop_depth
in-place-formed rs h = let i = segments-sound [] rs (omega arith) h in first-formed rs (segments rs) i.0 i.1

pub read-formed : (sheet : List ℕ) (rs : List Record) → read sheet ≡ ok rs → Formed rs (tree rs)
read-formed sheet rs e = in-place-formed rs (read-in-place sheet rs e)
