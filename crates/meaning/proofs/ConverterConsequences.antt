-- What C-12's promises come to, drawn from them alone, so that a weaker part breaks a theorem: a converted sheet is answered as the old one, loop for loop,
-- and nothing is lost on the way.
use mathlib.Core.Path.{◌≡◌, refl, sym, ap, ◌∙◌}
use mathlib.Core.List.{List, [], ◌∷◌, ◌++◌, map, map-append}
use mathlib.Core.Bool.{Bool, not, cond, ◌&&◌}
use mathlib.Core.Option
use Prim.Native.Nat.{ℕ, ◌≤◌}
use native.Mathlib.Omega.{arith}
use lib.IntN.{ℤ}
use lib.ListN.{length, take, drop, length-append, length-map}
use lib.Seq.{take-append_seam, drop-append_seam}
use borrow.Author.Tests.{ne_eqb}
use Rattle.meaning.specs.Record.{loop_kind, Loop, Record, loop_record, kind}
use Rattle.meaning.specs.Reader.{Result, ok, refused, read}
use Rattle.meaning.specs.Writer.{Written, store}
use Rattle.meaning.specs.Closed.{is_closed}
use Rattle.meaning.specs.Report.{LoopReport, all_closed}
use Rattle.meaning.specs.Answer.{Figures, sheet_reports, answer}
use Rattle.meaning.specs.Moved.{new_offset, moved_answer, moved_reason, moved_report, SameSheet, Without, Turned}
use Rattle.meaning.proofs.AlikeReaders.{each_at}
use Rattle.meaning.proofs.Logic.{refused-is-not-ok, ok-injective}

-- ---- the same sheet

all-closed-moved : (place : ℕ → ℕ) (rs : List LoopReport) → all_closed (map (moved_report place) rs) ≡ all_closed rs
unfolding all_closed moved_report
all-closed-moved place [] = refl
all-closed-moved place (r ∷ rs) = ap (λ b. is_closed r.class && b) (all-closed-moved place rs)

module _ {old new : List ℕ} (same : SameSheet old new) (ps : List ℤ) where
  abbrev place : ℕ → ℕ
  place = new_offset same.old_records same.new_records

  module _ (budget : ℕ) where
    answered : {r : Result Figures} → answer old ps budget ≡ r → answer new ps budget ≡ moved_answer place r
    answered e = same.same_answer ps budget ∙ ap (moved_answer place) e

    -- the same figures, visits among them
    pub figures-kept : (f : Figures) → answer old ps budget ≡ ok f → answer new ps budget ≡ ok f
    unfolding moved_answer
    figures-kept f e = answered e

    -- no other sheet has figures
    pub figures-known : (f : Figures) → answer new ps budget ≡ ok f → answer old ps budget ≡ ok f
    unfolding moved_answer
    figures-known f e = go (answer old ps budget) refl
      where
        go : (r : Result Figures) → answer old ps budget ≡ r → answer old ps budget ≡ ok f
        go (ok g) a = a ∙ sym (answered a) ∙ e
        go (refused number at) a = refused-is-not-ok (sym (answered a) ∙ e)

    -- refusal 6 is at the new offset of the same record, and 7 and 8 stay where they are
    pub ceiling-refused : (at : ℕ) → answer old ps budget ≡ refused 6 at → answer new ps budget ≡ refused 6 (place at)
    unfolding moved_answer
    ceiling-refused at e = answered e

    pub otherwise-refused : (number at : ℕ) → ¬ (number ≡ 6) → answer old ps budget ≡ refused number at → answer new ps budget ≡ refused number at
    unfolding moved_answer
    otherwise-refused number at other e = answered e ∙ ap (λ b. refused number (cond b (place at) at)) (ne_eqb number 6 other)

  abbrev old_reports : List LoopReport
  old_reports = sheet_reports ps same.old_records

  abbrev new_reports : List LoopReport
  new_reports = sheet_reports ps same.new_records

  -- as many loops are reported
  pub reports-kept : length new_reports ≡ length old_reports
  reports-kept = ap (λ (rs : List LoopReport). length rs) (same.same_reports ps) ∙ length-map old_reports (moved_report place)

  -- what is said of a loop in its new place: of the same class, with the same ceiling, and not closed for the same reason
  pub record SaidAgain (before : List LoopReport) (r : LoopReport) : Type 0 where
    pub new_before : List LoopReport
    pub report : LoopReport
    pub new_after : List LoopReport
    pub split : new_reports ≡ new_before ++ (report ∷ new_after)
    pub same_number : length new_before ≡ length before
    pub same_class : report.class ≡ r.class
    pub same_ceiling : report.ceiling ≡ r.ceiling
    pub offset_moved : report.offset ≡ place r.offset
    pub reason_moved : report.reason ≡ Option.map (moved_reason place) r.reason

  pub said-again : (before : List LoopReport) (r : LoopReport) (after : List LoopReport) → old_reports ≡ before ++ (r ∷ after) → SaidAgain before r
  unfolding moved_report
  said-again before r after e = record {
    new_before = map (moved_report place) before;
    report = moved_report place r;
    new_after = map (moved_report place) after;
    split = same.same_reports ps ∙ ap (map (moved_report place)) e ∙ map-append (moved_report place) before (r ∷ after);
    same_number = length-map before (moved_report place);
    same_class = refl;
    same_ceiling = refl;
    offset_moved = refl;
    reason_moved = refl;
  }

  -- so as many of them are closed
  pub all-closed-kept : all_closed new_reports ≡ all_closed old_reports
  all-closed-kept = ap all_closed (same.same_reports ps) ∙ all-closed-moved place old_reports

-- whatever records the two sheets are read as
pub reports-of-reads : {old new : List ℕ} → SameSheet old new → (rs ns : List Record) → read old ≡ ok rs → read new ≡ ok ns → (ps : List ℤ) →
    sheet_reports ps ns ≡ map (moved_report (new_offset rs ns)) (sheet_reports ps rs)
reports-of-reads same rs ns o n ps =
    let p : same.old_records ≡ rs = ok-injective (sym same.old_read ∙ o) in
    let q : same.new_records ≡ ns = ok-injective (sym same.new_read ∙ n) in
    ap (sheet_reports ps) (sym q) ∙ same.same_reports ps ∙ (λ t. map (moved_report (new_offset (p t) (q t))) (sheet_reports ps (p t)))

-- ---- there and back

module _ (has_skip : Bool) (back : List ℕ → List ℕ → Written) where
  -- a sheet without loops of one kind, all of which `new` has of that kind, and which comes back from it
  pub record Returns (new old : List ℕ) : Type 0 where
    pub turned : Turned has_skip back old new
    pub records : List Record
    pub old_read : read old ≡ ok records
    pub without : Without (loop_kind has_skip) records

  module _ {new old : List ℕ} (r : Returns new old) (buffer : List ℕ) (fits : length old ≤ length buffer) where
    returned : back new buffer ≡ store buffer (ok old)
    returned = r.turned.comes_back r.records r.old_read r.without buffer fits

    -- the length of the old sheet, its bytes, and the bytes past it as they were
    pub length-returned : (back new buffer).result ≡ ok (length old)
    unfolding store
    length-returned = ap (λ (w : Written). w.result) returned

    pub bytes-returned : take (length old) (back new buffer).buffer ≡ old
    unfolding store
    bytes-returned = ap (λ (w : Written). take (length old) w.buffer) returned ∙ take-append_seam old (drop (length old) buffer)

    pub past-kept : drop (length old) (back new buffer).buffer ≡ drop (length old) buffer
    unfolding store
    past-kept = ap (λ (w : Written). drop (length old) w.buffer) returned ∙ drop-append_seam old (drop (length old) buffer)

  -- no loop of the new sheet is of the other kind
  pub none_left : {new old : List ℕ} → Turned has_skip back old new → (before after : List Record) (l : Loop) → read new ≡ ok (before ++ (loop_record l ∷ after)) →
      ¬ (kind (loop_record l) ≡ loop_kind (not has_skip))
  none_left t before after l e = each_at (λ r. ¬ (kind r ≡ loop_kind (not has_skip))) before after (loop_record l) (t.every_loop (before ++ (loop_record l ∷ after)) e)

  -- no two sheets are converted to one
  pub nothing-lost : {new one other : List ℕ} → Returns new one → Returns new other → one ≡ other
  nothing-lost {new} {one} {other} r s =
      let room : List ℕ = one ++ other in
      let long = length-append one other in
      let same_length : length one ≡ length other = ok-injective (sym (length-returned r room (omega arith)) ∙ length-returned s room (omega arith)) in
      sym (bytes-returned r room (omega arith)) ∙ ap (λ (n : ℕ). take n (back new room).buffer) same_length ∙ bytes-returned s room (omega arith)
