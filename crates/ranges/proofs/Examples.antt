-- Figures over a range of a parameter and what the C call stores of them, by cases, from raw bytes.
use mathlib.Core.Path.{◌≡◌, refl}
use mathlib.Core.List.{[], ◌∷◌}
use lib.IntN.{pos, negsuc}
use Rattle.meaning.specs.Reader.{ok, refused}
use Rattle.ranges.specs.ParameterRange.{parameter_range}
use Rattle.ranges.specs.Extremes.{extremes, extremes_found}
use Rattle.ranges.specs.RangeCall.{range_call}
use Rattle.meaning.proofs.Vocabulary.{hex, zero_parameters, called}
use Rattle.ranges.proofs.Computes.{computes}

pub extremes-1 :
    -- figures fall and rise
    (extremes (hex "0200000000010001000000000000000000000000000100000001010001000302000000000100000000000001000000ffff00000000000000010100010003") zero_parameters 300 (parameter_range 1 (negsuc 2) (pos 2)) ≡ ok (extremes_found 0 (pos 0) 3 (negsuc 2) 5))
    -- figures rise and fall
    × (extremes (hex "020000000001000100000000000000000000000000010000000200000000010000000000000100000009000000000000000001010001000303") zero_parameters 300 (parameter_range 1 (pos 1) (pos 8)) ≡ ok (extremes_found 9 (pos 1) 25 (pos 5) 30))
    -- one value, least and most differ
    × (extremes (hex "02000000000100010000000000000000000000000001000000010200050003") zero_parameters 300 (parameter_range 1 (pos 3) (pos 3)) ≡ ok (extremes_found 6 (pos 3) 15 (pos 3) 1))
    -- from negative to positive values
    × (extremes (hex "020000000001000000000000010000000a0000000000000000010100010003") zero_parameters 300 (parameter_range 1 (negsuc 0) (pos 2)) ≡ ok (extremes_found 9 (pos 2) 12 (negsuc 0) 4))
    -- least: the first three alike
    × (extremes (hex "02000000000100010000000000000000000000000001000000010100010003") zero_parameters 300 (parameter_range 1 (negsuc 1) (pos 2)) ≡ ok (extremes_found 0 (negsuc 1) 2 (pos 2) 2))
    -- least: three in the middle alike; most: the first and the last
    × (extremes (hex "0200000000010001000000000000000000000000000100000001010001000302000000000100000000000001000000fdff00000000000000010100010003") zero_parameters 300 (parameter_range 1 (negsuc 3) (pos 2)) ≡ ok (extremes_found 0 (negsuc 1) 2 (negsuc 3) 4))
    -- most: two in the middle alike; least: the first and the last
    × (extremes (hex "020000000001000100000000000000000000000000010000000200000000010000000000000100000008000000000000000001010001000303") zero_parameters 300 (parameter_range 1 (pos 2) (pos 7)) ≡ ok (extremes_found 14 (pos 2) 20 (pos 4) 24))
    -- 256 values around 0, empty sheet
    × (extremes [] zero_parameters 300 (parameter_range 1 (negsuc 127) (pos 127)) ≡ ok (extremes_found 0 (negsuc 127) 0 (negsuc 127) 0))
    -- 257 values around 0, empty sheet
    × (extremes [] zero_parameters 300 (parameter_range 1 (negsuc 127) (pos 128)) ≡ refused 11 0)
    -- a loop at the lowest values
    × (extremes (hex "02000000000100000000000001000000088000000000000000010100010003") zero_parameters 300 (parameter_range 1 (negsuc 32767) (negsuc 32764)) ≡ ok (extremes_found 6 (negsuc 32764) 9 (negsuc 32767) 4))
    -- 11: number 0
    × (extremes (hex "02000000000100010000000000000000000000000001000000010100010003") zero_parameters 300 (parameter_range 0 (pos 1) (pos 3)) ≡ refused 11 0)
    -- 11: number 5
    × (extremes (hex "02000000000100010000000000000000000000000001000000010100010003") zero_parameters 300 (parameter_range 5 (pos 1) (pos 3)) ≡ refused 11 0)
    -- 11: number 2^32 - 1
    × (extremes (hex "02000000000100010000000000000000000000000001000000010100010003") zero_parameters 300 (parameter_range 4294967295 (pos 1) (pos 3)) ≡ refused 11 0)
    -- 11: first above last
    × (extremes (hex "02000000000100010000000000000000000000000001000000010100010003") zero_parameters 300 (parameter_range 1 (pos 3) (pos 2)) ≡ refused 11 0)
    -- 11 before 7: first above last
    × (extremes (hex "02000000000100010000000000000000000000000001000000010100010003") zero_parameters 0 (parameter_range 1 (pos 3) (pos 2)) ≡ refused 11 0)
    -- 11 before 1: number 5
    × (extremes (hex "01") zero_parameters 300 (parameter_range 5 (pos 1) (pos 3)) ≡ refused 11 0)
    -- 11 before 6: 257 values
    × (extremes (hex "0200000000010000000000000000000000080000000000000003") zero_parameters 300 (parameter_range 1 (pos 0) (pos 256)) ≡ refused 11 0)
    -- 11 before 8: number 0
    × (extremes (hex "020000000001000000000000000000000900000000000000000200000000020000000000000000000000000100000000000001010001000303") zero_parameters 1 (parameter_range 0 (pos 1) (pos 3)) ≡ refused 11 0)
    -- budget 0
    × (extremes (hex "02000000000100010000000000000000000000000001000000010100010003") zero_parameters 0 (parameter_range 1 (pos 1) (pos 3)) ≡ refused 7 0)
    -- budget 1,000,000
    × (extremes (hex "02000000000100010000000000000000000000000001000000010100010003") zero_parameters 1000000 (parameter_range 1 (pos 1) (pos 3)) ≡ ok (extremes_found 1 (pos 1) 3 (pos 3) 3))
unfolding computes
extremes-1 = (refl, refl, refl, refl, refl, refl, refl, refl, refl, refl, refl, refl, refl, refl, refl, refl, refl, refl, refl, refl)

pub extremes-2 :
    -- budget 1,000,001
    (extremes (hex "02000000000100010000000000000000000000000001000000010100010003") zero_parameters 1000001 (parameter_range 1 (pos 1) (pos 3)) ≡ refused 7 0)
    -- 7 before 2: kind 7
    × (extremes (hex "07") zero_parameters 0 (parameter_range 1 (pos 1) (pos 3)) ≡ refused 7 0)
    -- 3 of a later record before 6
    × (extremes (hex "020000000001000100000000000000000000000000010000000101000100030102000100") zero_parameters 300 (parameter_range 1 (pos 2049) (pos 2050)) ≡ refused 3 31)
    -- a loop is open at the end, 6 at the first value
    × (extremes (hex "020000000001000100000000000000000000000000010000000101000100") zero_parameters 300 (parameter_range 1 (pos 2049) (pos 2050)) ≡ refused 5 30)
    -- 6 at the last value
    × (extremes (hex "010100010002000000000100010000000000000000000000000001000000010100010003") zero_parameters 300 (parameter_range 1 (pos 2046) (pos 2049)) ≡ refused 6 5)
    -- 6 of one loop at the first value, of one before it at the second
    × (extremes (hex "020000000001000100000000000000000000000000010000000101000100030200000000010000000000000000000000000000006400000003") zero_parameters 300 (parameter_range 1 (pos 2048) (pos 2049)) ≡ refused 6 31)
    -- 6 at a later value before 8 of an earlier one
    × (extremes (hex "010100010002000000000100010000000000000000000000000001000000010100010003") zero_parameters 1 (parameter_range 1 (pos 2046) (pos 2049)) ≡ refused 6 5)
    -- 8 by the sum alone
    × (extremes (hex "02000000000100010000000000000000000000000001000000010100010003") zero_parameters 3 (parameter_range 1 (pos 1) (pos 4)) ≡ refused 8 0)
    -- the sum is the budget
    × (extremes (hex "02000000000100010000000000000000000000000001000000010100010003") zero_parameters 4 (parameter_range 1 (pos 1) (pos 4)) ≡ ok (extremes_found 1 (pos 1) 4 (pos 4) 4))
    -- the budget spent, and no visit at the rest
    × (extremes (hex "02000000000100000000000001000000030000000000000000010100010003") zero_parameters 3 (parameter_range 1 (pos 1) (pos 6)) ≡ ok (extremes_found 0 (pos 4) 3 (pos 1) 3))
    -- parameter 1, 32767 is given for it
    × (extremes (hex "02000000000100000000000001000000000000000000010101010100010003") (pos 32767 ∷ pos 2 ∷ pos 3 ∷ pos 4 ∷ []) 300 (parameter_range 1 (pos 0) (pos 3)) ≡ ok (extremes_found 7 (pos 3) 10 (pos 0) 4))
    -- parameter 2, 2 is given for it
    × (extremes (hex "02000000000100000000000001000000000000000000010101010100010003") (pos 1 ∷ pos 2 ∷ pos 3 ∷ pos 4 ∷ []) 300 (parameter_range 2 (pos 5) (pos 7)) ≡ ok (extremes_found 12 (pos 5) 14 (pos 7) 3))
    -- parameter 3, -32768 is given for it
    × (extremes (hex "02000000000100000000000001000000000000000000010101010100010003") (pos 1 ∷ pos 2 ∷ negsuc 32767 ∷ pos 4 ∷ []) 300 (parameter_range 3 (negsuc 1) (pos 0)) ≡ ok (extremes_found 4 (negsuc 1) 6 (pos 0) 3))
    -- parameter 4, 4 is given for it
    × (extremes (hex "02000000000100000000000001000000000000000000010101010100010003") (pos 1 ∷ pos 2 ∷ pos 3 ∷ pos 4 ∷ []) 300 (parameter_range 4 (pos 8) (pos 9)) ≡ ok (extremes_found 13 (pos 8) 14 (pos 9) 2))
    -- 6 at the value that is given, which is not looked at
    × (extremes (hex "02000000000100010000000000000000000000000001000000010100010003") (pos 32767 ∷ pos 0 ∷ pos 0 ∷ pos 0 ∷ []) 300 (parameter_range 1 (pos 1) (pos 3)) ≡ ok (extremes_found 1 (pos 1) 3 (pos 3) 3))
    -- parameter 4, which no form has
    × (extremes (hex "0200000000010000000000000000000009000000000000000002000000000100000000000000000000ffff0100000000000001010001000303") zero_parameters 300 (parameter_range 4 (negsuc 1) (pos 2)) ≡ ok (extremes_found 45 (negsuc 1) 45 (negsuc 1) 15))
    -- walked at one value, closed at the others, i 1..7 { j i..p1 }
    × (extremes (hex "020000000001000100000000000000000700000000000000000200000000010000000100000000000000000000000100000001010001000303") zero_parameters 300 (parameter_range 1 (pos 5) (pos 7)) ≡ ok (extremes_found 15 (pos 5) 28 (pos 7) 20))
    -- ranked, not settled at one value, settled at the others
    × (extremes (hex "020000000001000000000000000000000900000000000000000402000000000100000000000000000000ffff010000010000000101000100030501040004000303") zero_parameters 300 (parameter_range 1 (pos 3) (pos 5)) ≡ ok (extremes_found 39 (pos 3) 95 (pos 5) 28))
    -- a skip above start
    × (extremes (hex "060500000001000100000000000000000000000000010000000900010100010003") zero_parameters 300 (parameter_range 1 (negsuc 0) (pos 3)) ≡ ok (extremes_found 6 (pos 1) 9 (negsuc 0) 3))
    -- counting down to p1
    × (extremes (hex "0200000000ffff050000000000000000000000000001000000010100010003") zero_parameters 300 (parameter_range 1 (pos 1) (pos 7)) ≡ ok (extremes_found 0 (pos 6) 5 (pos 1) 5))
unfolding computes
extremes-2 = (refl, refl, refl, refl, refl, refl, refl, refl, refl, refl, refl, refl, refl, refl, refl, refl, refl, refl, refl, refl)

pub range-calls-1 :
    -- area of 43 bytes: the last three stay
    (range_call (hex "020000000001000000000000010000000a0000000000000000010100010003") zero_parameters 300 (parameter_range 1 (negsuc 0) (pos 2)) (hex "c9cacbcccdcecfd0d1d2d3d4d5d6d7d8d9dadbdcdddedfe0e1e2e3e4e5e6e7e8e9eaebecedeeeff0f1f2f3") ≡ called 0 (hex "090000000000000002000000000000000c00000000000000ffffffffffffffff0400000000000000f1f2f3"))
    -- area of 39 bytes
    × (range_call (hex "020000000001000000000000010000000a0000000000000000010100010003") zero_parameters 300 (parameter_range 1 (negsuc 0) (pos 2)) (hex "c9cacbcccdcecfd0d1d2d3d4d5d6d7d8d9dadbdcdddedfe0e1e2e3e4e5e6e7e8e9eaebecedeeef") ≡ called 9 (hex "c9cacbcccdcecfd0d1d2d3d4d5d6d7d8d9dadbdcdddedfe0e1e2e3e4e5e6e7e8e9eaebecedeeef"))
    -- no area
    × (range_call (hex "02000000000100010000000000000000000000000001000000010100010003") zero_parameters 300 (parameter_range 1 (pos 1) (pos 3)) [] ≡ called 9 [])
    -- 9 before 11
    × (range_call (hex "02000000000100010000000000000000000000000001000000010100010003") zero_parameters 300 (parameter_range 1 (pos 1) (pos 0)) (hex "c9cacbcccdcecfd0d1d2d3d4d5d6d7d8d9dadbdcdddedfe0e1e2e3e4e5e6e7e8e9eaebecedeeef") ≡ called 9 (hex "c9cacbcccdcecfd0d1d2d3d4d5d6d7d8d9dadbdcdddedfe0e1e2e3e4e5e6e7e8e9eaebecedeeef"))
    -- 11 leaves an area of 50 bytes
    × (range_call (hex "02000000000100010000000000000000000000000001000000010100010003") zero_parameters 300 (parameter_range 1 (pos 1) (pos 0)) (hex "c9cacbcccdcecfd0d1d2d3d4d5d6d7d8d9dadbdcdddedfe0e1e2e3e4e5e6e7e8e9eaebecedeeeff0f1f2f3f4f5f6f7f8f9fa") ≡ called 11 (hex "c9cacbcccdcecfd0d1d2d3d4d5d6d7d8d9dadbdcdddedfe0e1e2e3e4e5e6e7e8e9eaebecedeeeff0f1f2f3f4f5f6f7f8f9fa"))
    -- 8 leaves an area of 50 bytes
    × (range_call (hex "02000000000100010000000000000000000000000001000000010100010003") zero_parameters 2 (parameter_range 1 (pos 1) (pos 3)) (hex "c9cacbcccdcecfd0d1d2d3d4d5d6d7d8d9dadbdcdddedfe0e1e2e3e4e5e6e7e8e9eaebecedeeeff0f1f2f3f4f5f6f7f8f9fa") ≡ called 8 (hex "c9cacbcccdcecfd0d1d2d3d4d5d6d7d8d9dadbdcdddedfe0e1e2e3e4e5e6e7e8e9eaebecedeeeff0f1f2f3f4f5f6f7f8f9fa"))
unfolding computes
range-calls-1 = (refl, refl, refl, refl, refl, refl)
