-- Two readers that differ only where the first refuses a record read each sheet alike, or the first refuses it there; and what holds of each record
-- that a reader decodes holds of all records of a sheet.
use mathlib.Core.Path.{◌≡◌, refl, sym, ap, ◌∙◌, subst}
use mathlib.Core.List.{List, [], ◌∷◌, ◌++◌}
use mathlib.Core.Logic.{◌⊎◌, inl, inr}
use mathlib.Core.Option.{Option, some}
use Prim.Native.Nat.{ℕ, zero, suc, ◌+◌}
use native.Mathlib.Nat.{add-zero}
use native.Mathlib.Omega.{arith}
use lib.ListN.{length, take, drop}
use lib.Seq.{drop-drop}
use lib.Dec.{leb}
use Rattle.meaning.specs.Record.{Kind, body_length, Record, kind, record_length, Open}
use Rattle.meaning.specs.Reader.{Result, ok, refused, or_refuse, and_then, Accepted, read_record_of, read_from_of}
use Rattle.meaning.specs.ReasonsTold.{Each, no_member, one_more}
use Rattle.meaning.proofs.Logic.{ok-injective, refused-is-not-ok, and_then-ok, require-ok, or_refuse-ok, and_then-no}
use Rattle.meaning.proofs.Accepted.{accept-ok, end_of_sheet-ok}

-- ---- read alike

module _ (number : ℕ) (Told : List ℕ → Type 0) where
  -- of what begins so many bytes on, the first answer is the second, or refuses a record of which this is told
  abbrev Alike : Result (List Record) → Result (List Record) → ℕ → List ℕ → Type 0
  Alike before now at bytes = (before ≡ now) ⊎ ((i : ℕ) × (before ≡ refused number (at + i)) × Told (drop i bytes))

  -- of one record, which begins the bytes
  abbrev RecordAlike : Result Accepted → Result Accepted → ℕ → List ℕ → Type 0
  RecordAlike before now at bytes = (before ≡ now) ⊎ ((before ≡ refused number at) × Told bytes)

  -- what follows an accepted record
  module _ (at k : ℕ) (bytes : List ℕ) (a : Accepted) where
    alike-after : (before now : Result (List Record)) →
        Alike before now (at + record_length a.accepted) (drop (body_length (kind a.accepted)) bytes) →
        Alike (and_then before (λ rs. ok (a.accepted ∷ rs))) (and_then now (λ rs. ok (a.accepted ∷ rs))) at (k ∷ bytes)
    unfolding record_length
    alike-after before now (inl e) = inl (ap (λ r. and_then r (λ rs. ok (a.accepted ∷ rs))) e)
    alike-after before now (inr (i, e, told)) =
        let n : ℕ = body_length (kind a.accepted) in
        inr (suc (n + i), and_then-no _ e ∙ ap (refused number) (omega arith), subst Told (drop-drop i n bytes) told)

  module _ (kinds new_kinds : ℕ → Option Kind) (decode new_decode : Kind → List ℕ → Record)
      (records : (at : ℕ) (os : List Open) (k : ℕ) (bytes : List ℕ) →
      RecordAlike (read_record_of kinds decode at os k bytes) (read_record_of new_kinds new_decode at os k bytes) at (k ∷ bytes)) where
    pub alike_from : (left at : ℕ) (os : List Open) (bytes : List ℕ) →
        Alike (read_from_of kinds decode left at os bytes) (read_from_of new_kinds new_decode left at os bytes) at bytes
    unfolding read_from_of
    alike_from zero at os [] = inl refl
    alike_from zero at os (k ∷ bytes) = inl refl
    alike_from (suc left) at os [] = inl refl
    alike_from (suc left) at os (k ∷ bytes) = by_record (records at os k bytes)
        (λ (a : Accepted). alike_from left (at + record_length a.accepted) a.after (drop (body_length (kind a.accepted)) bytes))
      where
        -- what is read after the record a
        after : (ℕ → Option Kind) → (Kind → List ℕ → Record) → Accepted → Result (List Record)
        after known decoded a =
            and_then (read_from_of known decoded left (at + record_length a.accepted) a.after (drop (body_length (kind a.accepted)) bytes))
            (λ rs. ok (a.accepted ∷ rs))

        Later : Type 0
        Later = (a : Accepted) →
            Alike (read_from_of kinds decode left (at + record_length a.accepted) a.after (drop (body_length (kind a.accepted)) bytes))
            (read_from_of new_kinds new_decode left (at + record_length a.accepted) a.after (drop (body_length (kind a.accepted)) bytes))
            (at + record_length a.accepted) (drop (body_length (kind a.accepted)) bytes)

        same_record : (r : Result Accepted) → Later → Alike (and_then r (after kinds decode)) (and_then r (after new_kinds new_decode)) at (k ∷ bytes)
        same_record (ok a) later = unfold and_then in alike-after at k bytes a _ _ (later a)
        same_record (refused refusal place) later = unfold and_then in inl refl

        by_record : RecordAlike (read_record_of kinds decode at os k bytes) (read_record_of new_kinds new_decode at os k bytes) at (k ∷ bytes) → Later →
            Alike (and_then (read_record_of kinds decode at os k bytes) (after kinds decode))
            (and_then (read_record_of new_kinds new_decode at os k bytes) (after new_kinds new_decode)) at (k ∷ bytes)
        by_record (inl same) later =
            subst (λ r. Alike (and_then r (after kinds decode)) (and_then (read_record_of new_kinds new_decode at os k bytes) (after new_kinds new_decode)) at (k ∷ bytes))
            (sym same) (same_record (read_record_of new_kinds new_decode at os k bytes) later)
        by_record (inr (e, told)) later = inr (0, and_then-no _ e ∙ ap (refused number) (sym (add-zero at)), told)

-- ---- each record

module _ (kinds : ℕ → Option Kind) (decode : Kind → List ℕ → Record) (P : Record → Type 0)
    (decoded : (k : ℕ) (c : Kind) (body : List ℕ) → kinds k ≡ some c → P (decode c body)) where
  one-record : (at : ℕ) (os : List Open) (k : ℕ) (bytes : List ℕ) (a : Accepted) → read_record_of kinds decode at os k bytes ≡ ok a → P a.accepted
  unfolding read_record_of
  one-record at os k bytes a e =
      let n = and_then-ok (or_refuse (kinds k) 2 at) _ a e in
      let c : Kind = n.0 in
      let b = require-ok (leb (body_length c) (length bytes)) 1 at _ a n.2 in
      let same = (accept-ok at os (decode c (take (body_length c) bytes)) a b.1).0 in
      subst P same (decoded k c (take (body_length c) bytes) (or_refuse-ok (kinds k) 2 at c n.1))

  pub each-record : (left at : ℕ) (os : List Open) (bytes : List ℕ) (rs : List Record) → read_from_of kinds decode left at os bytes ≡ ok rs → Each P rs
  unfolding read_from_of
  each-record zero at os [] rs e = subst (Each P) (end_of_sheet-ok at os [] rs e).1 no_member
  each-record zero at os (k ∷ bytes) rs e = refused-is-not-ok e
  each-record (suc left) at os [] rs e = subst (Each P) (end_of_sheet-ok at os [] rs e).1 no_member
  each-record (suc left) at os (k ∷ bytes) rs e =
      let f = and_then-ok (read_record_of kinds decode at os k bytes) _ rs e in
      let a : Accepted = f.0 in
      let o = and_then-ok (read_from_of kinds decode left (at + record_length a.accepted) a.after (drop (body_length (kind a.accepted)) bytes)) _ rs f.2 in
      let others = each-record left (at + record_length a.accepted) a.after (drop (body_length (kind a.accepted)) bytes) o.0 o.1 in
      subst (Each P) (ok-injective o.2) (one_more (one-record at os k bytes a f.1) others)

pub each_at : (P : Record → Type 0) (before after : List Record) (r : Record) → Each P (before ++ (r ∷ after)) → P r
each_at P [] after r (one_more h others) = h
each_at P (x ∷ before) after r (one_more h others) = each_at P before after r others
