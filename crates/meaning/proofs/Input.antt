-- At most input_limit bytes of the program's input matter: those of the header, of the longest sheet, and one byte more.
use mathlib.Core.Path.{◌≡◌, refl, sym, ap, ◌∙◌, fun_ext}
use mathlib.Core.List.{List, [], ◌∷◌}
use mathlib.Core.Bool.{Bool, cond}
use Prim.Native.Nat.{ℕ, zero, suc, ◌+◌, ◌*◌, ◌-◌, ◌≤◌, ◌<◌}
use native.Mathlib.Nat.{suc-sub-suc, sub-zero, zero-sub}
use native.Mathlib.Omega.{arith}
use lib.ListN.{length, get_or, take, drop, length-take}
use lib.Seq.{take-take, take-nil, get_or-take}
use lib.Dec.{leb, ltb, leb→le, le→leb, ltb→lt, lt→ltb}
use Rattle.meaning.specs.Limits.{record_limit, body_limit, record_length_limit, constant_half, header_length, input_limit}
use Rattle.meaning.specs.Number.{unsigned, decode_signed, unsigned16, signed16}
use Rattle.meaning.specs.Record.{Kind, kind_of, body_length, Record, kind, record_length, decode_record, Open}
use Rattle.meaning.specs.Reader.{read_from_of, read_record_of, Result, ok, require, or_refuse, and_then, Accepted, accept, read_record, read_from, read}
use Rattle.meaning.specs.Answer.{answer}
use Rattle.meaning.specs.Program.{refused_line, answer_text, input_parameters, input_budget, input_sheet, reports_of, program_text, program_text_by}
use Rattle.meaning.proofs.RecordBytes.{body_length-bound}
use Rattle.meaning.proofs.Answers.{answer-of-reading}
use Rattle.meaning.proofs.Logic.{same_truth}

-- ---- a part of a list that is longer than what is looked at

drop-take : {A : Type 0} (m n : ℕ) (xs : List A) → drop m (take n xs) ≡ take (n - m) (drop m xs)
drop-take zero n xs = ap (λ (k : ℕ). take k xs) (sym (sub-zero n))
drop-take (suc m) zero xs = ap (λ (k : ℕ). take k (drop (suc m) xs)) (sym (zero-sub (suc m)))
drop-take (suc m) (suc n) [] = sym (take-nil (suc n - suc m))
drop-take (suc m) (suc n) (x ∷ xs) = drop-take m n xs ∙ ap (λ (k : ℕ). take k (drop m xs)) (sym (suc-sub-suc n m))

-- a list is at least m long where its first n ≥ m elements are
leb-take : (m n : ℕ) (xs : List ℕ) → m ≤ n → leb m (length xs) ≡ leb m (length (take n xs))
leb-take m n xs h =
    same_truth (leb m (length xs)) (leb m (length (take n xs)))
    (λ t. le→leb m (length (take n xs)) (omega (arith, leb→le m (length xs) t, length-take n xs)))
    (λ t. le→leb m (length xs) (omega (arith, leb→le m (length (take n xs)) t, length-take n xs)))

-- ---- the reader

-- the bytes of a sheet that matter: the longest records, as many as there may be, and one byte
abbrev pub sheet_limit : ℕ
sheet_limit = input_limit - header_length

module _ (n : ℕ) (bytes : List ℕ) (long : body_limit ≤ n) where
  read_record-take : (at : ℕ) (os : List Open) (k : ℕ) → read_record at os k bytes ≡ read_record at os k (take n bytes)
  unfolding read_record_of
  read_record-take at os k = ap (and_then (or_refuse (kind_of k) 2 at)) (fun_ext (λ c. same c (body_length-bound c)))
    where
      same : (c : Kind) → body_length c ≤ body_limit → require (leb (body_length c) (length bytes)) 1 at (accept at os (decode_record c (take (body_length c) bytes)))
          ≡ require (leb (body_length c) (length (take n bytes))) 1 at (accept at os (decode_record c (take (body_length c) (take n bytes))))
      same c h =
          ap (λ (b : Bool). require b 1 at (accept at os (decode_record c (take (body_length c) bytes)))) (leb-take (body_length c) n bytes (omega arith))
          ∙ ap (λ (b : List ℕ). require (leb (body_length c) (length (take n bytes))) 1 at (accept at os (decode_record c b)))
          (sym (take-take (body_length c) n bytes (omega arith)))

read_from-take : (left n at : ℕ) (os : List Open) (bytes : List ℕ) → record_length_limit * left < n → read_from left at os bytes ≡ read_from left at os (take n bytes)
unfolding read_from_of
read_from-take zero zero at os bytes h = absurd (omega arith)
read_from-take zero (suc n) at os [] h = refl
read_from-take zero (suc n) at os (k ∷ bytes) h = refl
read_from-take (suc left) zero at os bytes h = absurd (omega arith)
read_from-take (suc left) (suc n) at os [] h = refl
read_from-take (suc left) (suc n) at os (k ∷ bytes) h =
    ap (λ (r : Result Accepted). and_then r (λ a. and_then (rest a bytes) (λ rs. ok (a.accepted ∷ rs)))) (read_record-take n bytes (omega arith) at os k)
    ∙ ap (and_then (read_record at os k (take n bytes))) (fun_ext (λ a. ap (λ (r : Result (List Record)). and_then r (λ rs. ok (a.accepted ∷ rs)))
    (read_from-take left (n - body_length (kind a.accepted)) (at + record_length a.accepted) a.after (drop (body_length (kind a.accepted)) bytes)
    (omega (arith, body_length-bound (kind a.accepted)))
    ∙ ap (read_from left (at + record_length a.accepted) a.after) (sym (drop-take (body_length (kind a.accepted)) n bytes)))))
  where
    -- what is read after the record a
    rest : Accepted → List ℕ → Result (List Record)
    rest a following = read_from left (at + record_length a.accepted) a.after (drop (body_length (kind a.accepted)) following)

-- the first byte after the last record that a sheet may have is the last that the reader looks at
pub read_take : (sheet : List ℕ) → read sheet ≡ read (take sheet_limit sheet)
unfolding read
read_take sheet = read_from-take record_limit sheet_limit 0 [] sheet (omega arith)

-- ---- the program

module _ (input : List ℕ) where
  header-take : ltb (length input) header_length ≡ ltb (length (take input_limit input)) header_length
  header-take =
      same_truth (ltb (length input) header_length) (ltb (length (take input_limit input)) header_length)
      (λ t. lt→ltb (length (take input_limit input)) header_length (omega (arith, ltb→lt (length input) header_length t, length-take input_limit input)))
      (λ t. lt→ltb (length input) header_length (omega (arith, ltb→lt (length (take input_limit input)) header_length t, length-take input_limit input)))

  parameter-take : (at : ℕ) → at + 1 < input_limit → signed16 input at ≡ signed16 (take input_limit input) at
  unfolding signed16 unsigned16
  parameter-take at h =
      let a : get_or input at 0 ≡ get_or (take input_limit input) at 0 = sym (get_or-take input_limit input at 0 (omega arith)) in
      let b : get_or input (at + 1) 0 ≡ get_or (take input_limit input) (at + 1) 0 = sym (get_or-take input_limit input (at + 1) 0 h) in
      λ t. decode_signed constant_half (unsigned (a t ∷ b t ∷ []))

  parameters-take : input_parameters input ≡ input_parameters (take input_limit input)
  unfolding input_parameters
  parameters-take =
      λ t. parameter-take 0 (omega arith) t ∷ parameter-take 2 (omega arith) t ∷ parameter-take 4 (omega arith) t ∷ parameter-take 6 (omega arith) t ∷ []

  budget-take : input_budget input ≡ input_budget (take input_limit input)
  unfolding input_budget
  budget-take = ap unsigned (sym (ap (take 4) (drop-take 8 input_limit input) ∙ take-take 4 (input_limit - 8) (drop 8 input) (omega arith)))

  sheet-take : take sheet_limit (input_sheet input) ≡ input_sheet (take input_limit input)
  unfolding input_sheet
  sheet-take = sym (drop-take header_length input_limit input)

  -- what the program prints depends on the first input_limit bytes alone
  pub program_text-take : program_text input ≡ program_text (take input_limit input)
  unfolding program_text_by
  program_text-take =
      λ t. cond (header-take t) (refused_line 1 0) (answer_text (answers t) (reports_of (parameters-take t) (readings t)))
    where
      short : List ℕ
      short = take input_limit input

      answers : answer (input_sheet input) (input_parameters input) (input_budget input) ≡ answer (input_sheet short) (input_parameters short) (input_budget short)
      answers =
          answer-of-reading read read (input_sheet input) (take sheet_limit (input_sheet input)) (input_parameters input) (input_budget input) (read_take (input_sheet input))
          ∙ (λ t. answer (sheet-take t) (parameters-take t) (budget-take t))

      readings : read (input_sheet input) ≡ read (input_sheet short)
      readings = read_take (input_sheet input) ∙ ap read sheet-take
