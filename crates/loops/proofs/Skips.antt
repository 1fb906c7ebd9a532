-- Which kind has a skip of its own.
use mathlib.Core.Bool.{Bool, true, false}
use mathlib.Core.Path.{◌≡◌, refl, sym, ap, ◌∙◌}
use Prim.Native.Nat.{ℕ}
use borrow.Author.Tests.{eqb-true}
use lib.Dec.{eqb}
use Rattle.std.specs.Prelude as Std
use Rattle.std.specs.Prelude.{Some, None}
use Rattle.std.specs.Option.{option_eq}
use Rattle.meaning.specs.Record.{Loop, kind_number, kind_of, loop_record}
use Rattle.meaning.proofs.RecordBytes.{kind_number-kind_of}
use Rattle.meaning.proofs.Logic.{none-is-not-some}
use Rattle.records.specs.declared.Kind.{Kind}
use Rattle.records.specs.declared.Kind.TheVariants as variant
use Rattle.records.specs.contracts.KindPartialEq.TheImpl.{eq-value}
use Rattle.records.specs.View.{meant, meant_kind}

pub skips-read : (n : ℕ) (k : Std.Option Kind) → meant k ≡ kind_of n → {skips : Bool} → skips ≡ option_eq eq-value.it k (Some variant.SkipLoop) → skips ≡ eqb n 6
unfolding kind_number kind_of
skips-read n None m s = s ∙ go (eqb n 6) refl
  where
    go : (c : Bool) → eqb n 6 ≡ c → false ≡ eqb n 6
    go true e = none-is-not-some (m ∙ ap kind_of (eqb-true n 6 e))
    go false e = sym e
skips-read n (Some k) m s = s ∙ by_kind k ∙ ap (λ (i : ℕ). eqb i 6) (kind_number-kind_of n (meant_kind k) (sym m))
  where
    by_kind : (k : Kind) → option_eq eq-value.it (Some k) (Some variant.SkipLoop) ≡ eqb (kind_number (meant_kind k)) 6
    by_kind variant.Work = refl
    by_kind variant.Loop = refl
    by_kind variant.End = refl
    by_kind variant.Choice = refl
    by_kind variant.NextArm = refl
    by_kind variant.SkipLoop = refl

pub same-loop : (l m : Loop) → loop_record l ≡ loop_record m → l ≡ m
same-loop l m e = cc
