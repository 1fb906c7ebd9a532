-- What the promises of the exported calls come to; drawn from these promises alone, so that a weaker part of them breaks a theorem.
use mathlib.Core.List.{List, [], ◌∷◌}
use mathlib.Core.Path.{ap, refl, subst, sym, ◌∙◌, ◌≡◌}
use Prim.Native.Nat.{ℕ, ◌≤◌}
use lib.IntN.{ℤ, pos, negsuc}
use lib.ListN.{length, drop}
use Rattle.meaning.specs.Limits.{length_size}
use Rattle.meaning.specs.Answer.{Figures, answer, figures}
use Rattle.meaning.specs.Record.{Record}
use Rattle.meaning.specs.Run.{Run}
use Rattle.meaning.specs.CCall.{figures_in}
use Rattle.meaning.specs.Reader.{ok, read}
use Rattle.meaning.specs.Tree.{tree}
use Rattle.meaning.specs.Text.{text}
use Rattle.meaning.specs.Program.{program_text}
use Rattle.meaning.specs.Lent.{lent_in}
use Rattle.meaning.proofs.Consequences.{Largest, Smallest}
use Rattle.meaning.proofs.Answers.{answer_ok}
use Rattle.meaning.proofs.TextCalls.{text-call}
use Rattle.meaning.proofs.Computes.{computes}
use Rattle.meaning.proofs.Known.{known-sheets}
use Rattle.meaning.proofs.Vocabulary.{hex, zero_parameters}
use Rattle.ranges.specs.ParameterRange.{ParameterRange, parameter_range}
use Rattle.ranges.specs.Extremes.{Extremes, extremes_found, extremes}
use Rattle.ranges.specs.RangeCall.{extremes_stored, RangeStored}
use Rattle.ranges.proofs.RangeRuns.{range-answered}
use Rattle.ranges.proofs.Consequences.{one_answer}
use Rattle.ranges.proofs.Computes as Range
use Rattle.figures.proofs.Consequences.{answered-figures, answered-least, answered-most}
use Rattle.exports.specs.Demand.{Stored}
use Rattle.exports.proofs.LentTexts.{Promised}

-- ---- a sheet with known figures

-- What is known of a call of `pumdalin_figures` that returned 0 and left `area`.
pub record KnownFigures (ps : List ℤ) (rs : List Record) (least most visits : ℕ) (area : List ℕ) : Type 0 where
  pub held : figures_in area ≡ figures least most visits
  pub fastest : Run ps (tree rs) [] least
  pub slowest : Run ps (tree rs) [] most
  pub never_below : (cycles : ℕ) → Run ps (tree rs) [] cycles → least ≤ cycles
  pub never_above : (cycles : ℕ) → Run ps (tree rs) [] cycles → cycles ≤ most

abbrev pub KnownCall : List ℕ → List ℤ → ℕ → ℕ → ℕ → Type 0
KnownCall sheet ps least most visits =
    (area : List ℕ) → Stored sheet ps 0 area → (rs : List Record) × (read sheet ≡ ok rs) × KnownFigures ps rs least most visits area

-- from the promise alone, and from what the definitions answer
pub known-call : (sheet : List ℕ) (ps : List ℤ) (budget least most visits : ℕ) →
    answer sheet ps budget ≡ ok (figures least most visits) → KnownCall sheet ps least most visits
unfolding Stored
known-call sheet ps budget least most visits known area stored =
    let a = (answer_ok sheet ps budget (figures least most visits)).0 known in
    let same = answered-figures sheet ps a.rs a.read_as (figures_in area) (stored refl) ∙ sym a.figures_are in
    let least = answered-least sheet ps a.rs a.read_as (figures_in area) (stored refl) in
    let most = answered-most sheet ps a.rs a.read_as (figures_in area) (stored refl) in
    let small = subst (λ (f : Figures). Smallest (Run ps (tree a.rs) []) f.least) same least in
    let large = subst (λ (f : Figures). Largest (Run ps (tree a.rs) []) f.most) same most in
    (a.rs, a.read_as, record { held = same; fastest = small.holds; slowest = large.holds; never_below = small.below; never_above = large.above })

-- two of the known sheets: i 1 to N over j i to N with N 100; i 0 to 9 over a choice of (j 0 to i - 1) and work 4 to 4
pub known-calls :
    KnownCall (hex "020000000001000100000000000000000000000000010000000200000000010000000100000000000000000000000100000001010001000303")
    (pos 100 ∷ pos 0 ∷ pos 0 ∷ pos 0 ∷ []) 5050 5050 4
    × KnownCall (hex "020000000001000000000000000000000900000000000000000402000000000100000000000000000000ffff010000000000000101000100030501040004000303")
    zero_parameters 30 55 19
known-calls = (known-call _ _ _ _ _ _ known-sheets.14, known-call _ _ _ _ _ _ known-sheets.18)

-- ---- a range with a known answer

-- what is known of a call of `pumdalin_range` that returned 0 and left `area`
abbrev pub KnownRange : List ℕ → List ℤ → ℕ → ParameterRange → Extremes → Type 0
KnownRange sheet ps budget range e = (area : List ℕ) → RangeStored sheet ps budget range 0 area → extremes_stored area ≡ e

-- from the promise alone, and from what the definitions answer
pub known-range : (sheet : List ℕ) (ps : List ℤ) (budget : ℕ) (range : ParameterRange) (e : Extremes) → extremes sheet ps budget range ≡ ok e →
    KnownRange sheet ps budget range e
unfolding RangeStored
known-range sheet ps budget range e known area stored =
    one_answer sheet ps budget range (stored refl) (range-answered sheet ps budget range (ok e) (sym known))

-- i 1 to N over j i to N, N from -2 to 4
pub known-ranges :
    KnownRange (hex "020000000001000100000000000000000000000000010000000200000000010000000100000000000000000000000100000001010001000303")
    zero_parameters 100 (parameter_range 1 (negsuc 1) (pos 4)) (extremes_found 0 (negsuc 1) 10 (pos 4) 14)
unfolding Range.computes
known-ranges =
    known-range (hex "020000000001000100000000000000000000000000010000000200000000010000000100000000000000000000000100000001010001000303")
    zero_parameters 100 (parameter_range 1 (negsuc 1) (pos 4)) (extremes_found 0 (negsuc 1) 10 (pos 4) 14) refl

-- ---- an input with a known text

-- What is known of a call of `pumdalin_text` that was lent `buffer` and `area`, returned 0 and left `after` and `left`.
pub record KnownText (known buffer area after left : List ℕ) : Type 0 where
  pub held : lent_in after left ≡ known
  pub room : (length_size ≤ length area) × (length known ≤ length buffer)
  pub past_text : drop (length known) after ≡ drop (length known) buffer
  pub past_length : drop length_size left ≡ drop length_size area

abbrev pub KnownTextCall : List ℕ → List ℕ → Type 0
KnownTextCall input known = (buffer area after left : List ℕ) → Promised input buffer area 0 after left → KnownText known buffer area after left

-- from the promises alone, and from what the definitions print
pub known-text : (input known : List ℕ) → program_text input ≡ known → KnownTextCall input known
known-text input known same buffer area after left (number, (text, (stored, (reads, reasons)))) =
    let laws = text-call input buffer area in
    subst (λ (k : List ℕ). KnownText k buffer area after left) same (record {
      held = reads refl;
      room = laws.room (sym number);
      past_text = ap (drop (length (program_text input))) text ∙ laws.buffer_tail;
      past_length = ap (drop length_size) stored ∙ laws.area_tail;
    })

-- i 0 to 9 over j 0 to i - 1 at budget 100
abbrev triangle : List ℕ
triangle = hex "0000000000000000640000000200000000010000000000000000000009000000000000000002000000000100000000000000000000ffff0100000000000001010001000303"

abbrev triangle_text : List ℕ
triangle_text = text "best 45 worst 45 visits 3\nloop 0 closed ceiling 10\nloop 25 closed ceiling 9\n"

-- this input, and none
pub known-texts : KnownTextCall triangle triangle_text × KnownTextCall [] (text "refused 1 at 0\n")
unfolding computes
known-texts = (known-text triangle triangle_text refl, known-text [] (text "refused 1 at 0\n") refl)
