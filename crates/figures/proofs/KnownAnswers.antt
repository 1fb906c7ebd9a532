-- What the library call returns for the ten sheets with known figures.
use mathlib.Core.List.{[], ◌∷◌}
use lib.IntN.{pos}
use Rattle.meaning.proofs.Vocabulary.{hex, zero_parameters}
use Rattle.meaning.proofs.Known.{known-sheets}
use Rattle.figures.proofs.Settled.{Returns, returns}

pub known-answers :
    -- empty sheet
    Returns [] zero_parameters 100 0 0 0
    -- start 2, step 1, i 0 to 9, work 3 to 5
    × Returns (hex "02020001000100000000000000000000090000000000000000010300050003") zero_parameters 100 42 62 1
    -- i 0 to 9, j 0 to i - 1
    × Returns (hex "0200000000010000000000000000000009000000000000000002000000000100000000000000000000ffff0100000000000001010001000303") zero_parameters 100 45 45 3
    -- i 1 to 7, j i to 2
    × Returns (hex "020000000001000100000000000000000700000000000000000200000000010000000100000000000002000000000000000001010001000303") zero_parameters 100 3 3 9
    -- i 0 to 9, j 0 to i by 2
    × Returns (hex "020000000001000000000000000000000900000000000000000200000000020000000000000000000000000100000000000001010001000303") zero_parameters 100 30 30 20
    -- i 0 to 18 by 2, j 0 to i by 2
    × Returns (hex "020000000002000000000000000000001200000000000000000200000000020000000000000000000000000100000000000001010001000303") zero_parameters 100 55 55 4
    -- i 0 to 9, j i to 10, k i - 3 to j + 7
    × Returns (hex "02000000000100000000000000000000090000000000000000020000000001000000010000000000000a000000000000000002000000000100fdff010000000000000700000100000000000101000100030303") zero_parameters 100 935 935 15
    -- i 1 to N, j i to N, N 100
    × Returns (hex "020000000001000100000000000000000000000000010000000200000000010000000100000000000000000000000100000001010001000303") (pos 100 ∷ pos 0 ∷ pos 0 ∷ pos 0 ∷ []) 100 5050 5050 4
    -- i 1 to N, j i to N, N 0
    × Returns (hex "020000000001000100000000000000000000000000010000000200000000010000000100000000000000000000000100000001010001000303") zero_parameters 100 0 0 0
    -- i 0 to 9 over a choice of (j 0 to i - 1) and work 4 to 4
    × Returns (hex "020000000001000000000000000000000900000000000000000402000000000100000000000000000000ffff010000000000000101000100030501040004000303") zero_parameters 100 30 55 19
    -- i 0 to -1 by 3
    × Returns (hex "02000000000300000000000000000000ffff00000000000000010100010003") zero_parameters 100 0 0 0
known-answers = (returns _ _ _ _ _ _ known-sheets.0, returns _ _ _ _ _ _ known-sheets.2, returns _ _ _ _ _ _ known-sheets.4, returns _ _ _ _ _ _ known-sheets.6, returns _ _ _ _ _ _ known-sheets.8, returns _ _ _ _ _ _ known-sheets.10, returns _ _ _ _ _ _ known-sheets.12, returns _ _ _ _ _ _ known-sheets.14, returns _ _ _ _ _ _ known-sheets.16, returns _ _ _ _ _ _ known-sheets.18, returns _ _ _ _ _ _ known-sheets.20)
