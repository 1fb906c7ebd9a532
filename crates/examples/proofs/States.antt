-- The state after every stage, from 0 to visits + 2 stages.
use mathlib.Core.Path.{◌≡◌, refl}
use mathlib.Core.List.{List, [], ◌∷◌}
use mathlib.Core.Option.{none, some}
use lib.IntN.{pos, negsuc}
use lib.ListN.{drop}
use Rattle.meaning.specs.Record.{Loop, Record, work_record, loop_record, end_record, choice_record, next_arm_record}
use Rattle.meaning.specs.Time.{bounds}
use Rattle.meaning.specs.Stage.{loop_frame, choice_frame, kept_arms, state, state_keeping}
use Rattle.meaning.proofs.Vocabulary.{zero_parameters, form, loop_of, skip_loop_of, state_after}
use Rattle.meaning.proofs.Computes.{computes}

-- 1. costs: i 0 to 9
abbrev loop1-0 : Loop
loop1-0 = loop_of 2 1 (pos 1) (form (pos 0) (pos 0 ∷ pos 0 ∷ pos 0 ∷ []) (pos 0 ∷ pos 0 ∷ pos 0 ∷ pos 0 ∷ [])) (form (pos 9) (pos 0 ∷ pos 0 ∷ pos 0 ∷ []) (pos 0 ∷ pos 0 ∷ pos 0 ∷ pos 0 ∷ []))

abbrev records1 : List Record
records1 = loop_record loop1-0 ∷ work_record 3 5 ∷ end_record ∷ []

pub states-1 :
    (state_after 0 records1 zero_parameters ≡ state (drop 0 records1) (bounds 0 0) [] 0)
    × (state_after 1 records1 zero_parameters ≡ state (drop 1 records1) (bounds 0 0) (loop_frame loop1-0 (drop 1 records1) 0 [] (bounds 2 2) ∷ []) 1)
    × (state_after 2 records1 zero_parameters ≡ state (drop 3 records1) (bounds 42 62) [] 1)
    × (state_after 3 records1 zero_parameters ≡ state (drop 3 records1) (bounds 42 62) [] 1)
unfolding computes
states-1 = (refl, refl, refl, refl)

-- 2. closed: i 0 to 9, j 0 to i - 1
abbrev loop2-0 : Loop
loop2-0 = loop_of 0 0 (pos 1) (form (pos 0) (pos 0 ∷ pos 0 ∷ pos 0 ∷ []) (pos 0 ∷ pos 0 ∷ pos 0 ∷ pos 0 ∷ [])) (form (pos 9) (pos 0 ∷ pos 0 ∷ pos 0 ∷ []) (pos 0 ∷ pos 0 ∷ pos 0 ∷ pos 0 ∷ []))

abbrev loop2-1 : Loop
loop2-1 = loop_of 0 0 (pos 1) (form (pos 0) (pos 0 ∷ pos 0 ∷ pos 0 ∷ []) (pos 0 ∷ pos 0 ∷ pos 0 ∷ pos 0 ∷ [])) (form (negsuc 0) (pos 1 ∷ pos 0 ∷ pos 0 ∷ []) (pos 0 ∷ pos 0 ∷ pos 0 ∷ pos 0 ∷ []))

abbrev records2 : List Record
records2 = loop_record loop2-0 ∷ loop_record loop2-1 ∷ work_record 1 1 ∷ end_record ∷ end_record ∷ []

pub states-2 :
    (state_after 0 records2 zero_parameters ≡ state (drop 0 records2) (bounds 0 0) [] 0)
    × (state_after 1 records2 zero_parameters ≡ state (drop 1 records2) (bounds 0 0) (loop_frame loop2-0 (drop 1 records2) 0 [] (bounds 0 0) ∷ []) 1)
    × (state_after 2 records2 zero_parameters ≡ state (drop 1 records2) (bounds 0 0) (loop_frame loop2-0 (drop 1 records2) 1 (bounds 0 0 ∷ []) (bounds 0 0) ∷ []) 2)
    × (state_after 3 records2 zero_parameters ≡ state (drop 2 records2) (bounds 0 0) (loop_frame loop2-1 (drop 2 records2) 0 [] (bounds 0 0) ∷ loop_frame loop2-0 (drop 1 records2) 1 (bounds 0 0 ∷ []) (bounds 0 0) ∷ []) 3)
    × (state_after 4 records2 zero_parameters ≡ state (drop 5 records2) (bounds 45 45) [] 3)
    × (state_after 5 records2 zero_parameters ≡ state (drop 5 records2) (bounds 45 45) [] 3)
unfolding computes
states-2 = (refl, refl, refl, refl, refl, refl)

-- 3. walked: i 0 to 9, j 0 to i by 2
abbrev loop3-0 : Loop
loop3-0 = loop_of 0 0 (pos 1) (form (pos 0) (pos 0 ∷ pos 0 ∷ pos 0 ∷ []) (pos 0 ∷ pos 0 ∷ pos 0 ∷ pos 0 ∷ [])) (form (pos 9) (pos 0 ∷ pos 0 ∷ pos 0 ∷ []) (pos 0 ∷ pos 0 ∷ pos 0 ∷ pos 0 ∷ []))

abbrev loop3-1 : Loop
loop3-1 = loop_of 0 0 (pos 2) (form (pos 0) (pos 0 ∷ pos 0 ∷ pos 0 ∷ []) (pos 0 ∷ pos 0 ∷ pos 0 ∷ pos 0 ∷ [])) (form (pos 0) (pos 1 ∷ pos 0 ∷ pos 0 ∷ []) (pos 0 ∷ pos 0 ∷ pos 0 ∷ pos 0 ∷ []))

abbrev records3 : List Record
records3 = loop_record loop3-0 ∷ loop_record loop3-1 ∷ work_record 1 1 ∷ end_record ∷ end_record ∷ []

pub states-3 :
    (state_after 0 records3 zero_parameters ≡ state (drop 0 records3) (bounds 0 0) [] 0)
    × (state_after 1 records3 zero_parameters ≡ state (drop 1 records3) (bounds 0 0) (loop_frame loop3-0 (drop 1 records3) 0 [] (bounds 0 0) ∷ []) 1)
    × (state_after 2 records3 zero_parameters ≡ state (drop 2 records3) (bounds 0 0) (loop_frame loop3-1 (drop 2 records3) 0 [] (bounds 0 0) ∷ loop_frame loop3-0 (drop 1 records3) 0 [] (bounds 0 0) ∷ []) 2)
    × (state_after 3 records3 zero_parameters ≡ state (drop 1 records3) (bounds 0 0) (loop_frame loop3-0 (drop 1 records3) 1 (bounds 1 1 ∷ []) (bounds 0 0) ∷ []) 3)
    × (state_after 4 records3 zero_parameters ≡ state (drop 2 records3) (bounds 0 0) (loop_frame loop3-1 (drop 2 records3) 0 [] (bounds 0 0) ∷ loop_frame loop3-0 (drop 1 records3) 1 (bounds 1 1 ∷ []) (bounds 0 0) ∷ []) 4)
    × (state_after 5 records3 zero_parameters ≡ state (drop 1 records3) (bounds 0 0) (loop_frame loop3-0 (drop 1 records3) 2 (bounds 2 2 ∷ []) (bounds 0 0) ∷ []) 5)
    × (state_after 6 records3 zero_parameters ≡ state (drop 2 records3) (bounds 0 0) (loop_frame loop3-1 (drop 2 records3) 0 [] (bounds 0 0) ∷ loop_frame loop3-0 (drop 1 records3) 2 (bounds 2 2 ∷ []) (bounds 0 0) ∷ []) 6)
    × (state_after 7 records3 zero_parameters ≡ state (drop 1 records3) (bounds 0 0) (loop_frame loop3-0 (drop 1 records3) 3 (bounds 4 4 ∷ []) (bounds 0 0) ∷ []) 7)
    × (state_after 8 records3 zero_parameters ≡ state (drop 2 records3) (bounds 0 0) (loop_frame loop3-1 (drop 2 records3) 0 [] (bounds 0 0) ∷ loop_frame loop3-0 (drop 1 records3) 3 (bounds 4 4 ∷ []) (bounds 0 0) ∷ []) 8)
    × (state_after 9 records3 zero_parameters ≡ state (drop 1 records3) (bounds 0 0) (loop_frame loop3-0 (drop 1 records3) 4 (bounds 6 6 ∷ []) (bounds 0 0) ∷ []) 9)
    × (state_after 10 records3 zero_parameters ≡ state (drop 2 records3) (bounds 0 0) (loop_frame loop3-1 (drop 2 records3) 0 [] (bounds 0 0) ∷ loop_frame loop3-0 (drop 1 records3) 4 (bounds 6 6 ∷ []) (bounds 0 0) ∷ []) 10)
    × (state_after 11 records3 zero_parameters ≡ state (drop 1 records3) (bounds 0 0) (loop_frame loop3-0 (drop 1 records3) 5 (bounds 9 9 ∷ []) (bounds 0 0) ∷ []) 11)
    × (state_after 12 records3 zero_parameters ≡ state (drop 2 records3) (bounds 0 0) (loop_frame loop3-1 (drop 2 records3) 0 [] (bounds 0 0) ∷ loop_frame loop3-0 (drop 1 records3) 5 (bounds 9 9 ∷ []) (bounds 0 0) ∷ []) 12)
    × (state_after 13 records3 zero_parameters ≡ state (drop 1 records3) (bounds 0 0) (loop_frame loop3-0 (drop 1 records3) 6 (bounds 12 12 ∷ []) (bounds 0 0) ∷ []) 13)
    × (state_after 14 records3 zero_parameters ≡ state (drop 2 records3) (bounds 0 0) (loop_frame loop3-1 (drop 2 records3) 0 [] (bounds 0 0) ∷ loop_frame loop3-0 (drop 1 records3) 6 (bounds 12 12 ∷ []) (bounds 0 0) ∷ []) 14)
    × (state_after 15 records3 zero_parameters ≡ state (drop 1 records3) (bounds 0 0) (loop_frame loop3-0 (drop 1 records3) 7 (bounds 16 16 ∷ []) (bounds 0 0) ∷ []) 15)
    × (state_after 16 records3 zero_parameters ≡ state (drop 2 records3) (bounds 0 0) (loop_frame loop3-1 (drop 2 records3) 0 [] (bounds 0 0) ∷ loop_frame loop3-0 (drop 1 records3) 7 (bounds 16 16 ∷ []) (bounds 0 0) ∷ []) 16)
    × (state_after 17 records3 zero_parameters ≡ state (drop 1 records3) (bounds 0 0) (loop_frame loop3-0 (drop 1 records3) 8 (bounds 20 20 ∷ []) (bounds 0 0) ∷ []) 17)
    × (state_after 18 records3 zero_parameters ≡ state (drop 2 records3) (bounds 0 0) (loop_frame loop3-1 (drop 2 records3) 0 [] (bounds 0 0) ∷ loop_frame loop3-0 (drop 1 records3) 8 (bounds 20 20 ∷ []) (bounds 0 0) ∷ []) 18)
    × (state_after 19 records3 zero_parameters ≡ state (drop 1 records3) (bounds 0 0) (loop_frame loop3-0 (drop 1 records3) 9 (bounds 25 25 ∷ []) (bounds 0 0) ∷ []) 19)
    × (state_after 20 records3 zero_parameters ≡ state (drop 2 records3) (bounds 0 0) (loop_frame loop3-1 (drop 2 records3) 0 [] (bounds 0 0) ∷ loop_frame loop3-0 (drop 1 records3) 9 (bounds 25 25 ∷ []) (bounds 0 0) ∷ []) 20)
    × (state_after 21 records3 zero_parameters ≡ state (drop 5 records3) (bounds 30 30) [] 20)
    × (state_after 22 records3 zero_parameters ≡ state (drop 5 records3) (bounds 30 30) [] 20)
unfolding computes
states-3 = (refl, refl, refl, refl, refl, refl, refl, refl, refl, refl, refl, refl, refl, refl, refl, refl, refl, refl, refl, refl, refl, refl, refl)

-- 4. closed, three deep
abbrev loop4-0 : Loop
loop4-0 = loop_of 0 0 (pos 1) (form (pos 0) (pos 0 ∷ pos 0 ∷ pos 0 ∷ []) (pos 0 ∷ pos 0 ∷ pos 0 ∷ pos 0 ∷ [])) (form (pos 9) (pos 0 ∷ pos 0 ∷ pos 0 ∷ []) (pos 0 ∷ pos 0 ∷ pos 0 ∷ pos 0 ∷ []))

abbrev loop4-1 : Loop
loop4-1 = loop_of 0 0 (pos 1) (form (pos 0) (pos 1 ∷ pos 0 ∷ pos 0 ∷ []) (pos 0 ∷ pos 0 ∷ pos 0 ∷ pos 0 ∷ [])) (form (pos 10) (pos 0 ∷ pos 0 ∷ pos 0 ∷ []) (pos 0 ∷ pos 0 ∷ pos 0 ∷ pos 0 ∷ []))

abbrev loop4-2 : Loop
loop4-2 = loop_of 0 0 (pos 1) (form (negsuc 2) (pos 1 ∷ pos 0 ∷ pos 0 ∷ []) (pos 0 ∷ pos 0 ∷ pos 0 ∷ pos 0 ∷ [])) (form (pos 7) (pos 0 ∷ pos 1 ∷ pos 0 ∷ []) (pos 0 ∷ pos 0 ∷ pos 0 ∷ pos 0 ∷ []))

abbrev records4 : List Record
records4 = loop_record loop4-0 ∷ loop_record loop4-1 ∷ loop_record loop4-2 ∷ work_record 1 1 ∷ end_record ∷ end_record ∷ end_record ∷ []

pub states-4 :
    (state_after 0 records4 zero_parameters ≡ state (drop 0 records4) (bounds 0 0) [] 0)
    × (state_after 1 records4 zero_parameters ≡ state (drop 1 records4) (bounds 0 0) (loop_frame loop4-0 (drop 1 records4) 0 [] (bounds 0 0) ∷ []) 1)
    × (state_after 2 records4 zero_parameters ≡ state (drop 2 records4) (bounds 0 0) (loop_frame loop4-1 (drop 2 records4) 0 [] (bounds 0 0) ∷ loop_frame loop4-0 (drop 1 records4) 0 [] (bounds 0 0) ∷ []) 2)
    × (state_after 3 records4 zero_parameters ≡ state (drop 3 records4) (bounds 0 0) (loop_frame loop4-2 (drop 3 records4) 0 [] (bounds 0 0) ∷ loop_frame loop4-1 (drop 2 records4) 0 [] (bounds 0 0) ∷ loop_frame loop4-0 (drop 1 records4) 0 [] (bounds 0 0) ∷ []) 3)
    × (state_after 4 records4 zero_parameters ≡ state (drop 2 records4) (bounds 0 0) (loop_frame loop4-1 (drop 2 records4) 1 (bounds 11 11 ∷ []) (bounds 0 0) ∷ loop_frame loop4-0 (drop 1 records4) 0 [] (bounds 0 0) ∷ []) 4)
    × (state_after 5 records4 zero_parameters ≡ state (drop 3 records4) (bounds 0 0) (loop_frame loop4-2 (drop 3 records4) 0 [] (bounds 0 0) ∷ loop_frame loop4-1 (drop 2 records4) 1 (bounds 11 11 ∷ []) (bounds 0 0) ∷ loop_frame loop4-0 (drop 1 records4) 0 [] (bounds 0 0) ∷ []) 5)
    × (state_after 6 records4 zero_parameters ≡ state (drop 1 records4) (bounds 0 0) (loop_frame loop4-0 (drop 1 records4) 1 (bounds 176 176 ∷ []) (bounds 0 0) ∷ []) 6)
    × (state_after 7 records4 zero_parameters ≡ state (drop 2 records4) (bounds 0 0) (loop_frame loop4-1 (drop 2 records4) 0 [] (bounds 0 0) ∷ loop_frame loop4-0 (drop 1 records4) 1 (bounds 176 176 ∷ []) (bounds 0 0) ∷ []) 7)
    × (state_after 8 records4 zero_parameters ≡ state (drop 3 records4) (bounds 0 0) (loop_frame loop4-2 (drop 3 records4) 0 [] (bounds 0 0) ∷ loop_frame loop4-1 (drop 2 records4) 0 [] (bounds 0 0) ∷ loop_frame loop4-0 (drop 1 records4) 1 (bounds 176 176 ∷ []) (bounds 0 0) ∷ []) 8)
    × (state_after 9 records4 zero_parameters ≡ state (drop 2 records4) (bounds 0 0) (loop_frame loop4-1 (drop 2 records4) 1 (bounds 11 11 ∷ []) (bounds 0 0) ∷ loop_frame loop4-0 (drop 1 records4) 1 (bounds 176 176 ∷ []) (bounds 0 0) ∷ []) 9)
    × (state_after 10 records4 zero_parameters ≡ state (drop 3 records4) (bounds 0 0) (loop_frame loop4-2 (drop 3 records4) 0 [] (bounds 0 0) ∷ loop_frame loop4-1 (drop 2 records4) 1 (bounds 11 11 ∷ []) (bounds 0 0) ∷ loop_frame loop4-0 (drop 1 records4) 1 (bounds 176 176 ∷ []) (bounds 0 0) ∷ []) 10)
    × (state_after 11 records4 zero_parameters ≡ state (drop 1 records4) (bounds 0 0) (loop_frame loop4-0 (drop 1 records4) 2 (bounds 176 176 ∷ bounds 155 155 ∷ []) (bounds 0 0) ∷ []) 11)
    × (state_after 12 records4 zero_parameters ≡ state (drop 2 records4) (bounds 0 0) (loop_frame loop4-1 (drop 2 records4) 0 [] (bounds 0 0) ∷ loop_frame loop4-0 (drop 1 records4) 2 (bounds 176 176 ∷ bounds 155 155 ∷ []) (bounds 0 0) ∷ []) 12)
    × (state_after 13 records4 zero_parameters ≡ state (drop 3 records4) (bounds 0 0) (loop_frame loop4-2 (drop 3 records4) 0 [] (bounds 0 0) ∷ loop_frame loop4-1 (drop 2 records4) 0 [] (bounds 0 0) ∷ loop_frame loop4-0 (drop 1 records4) 2 (bounds 176 176 ∷ bounds 155 155 ∷ []) (bounds 0 0) ∷ []) 13)
    × (state_after 14 records4 zero_parameters ≡ state (drop 2 records4) (bounds 0 0) (loop_frame loop4-1 (drop 2 records4) 1 (bounds 11 11 ∷ []) (bounds 0 0) ∷ loop_frame loop4-0 (drop 1 records4) 2 (bounds 176 176 ∷ bounds 155 155 ∷ []) (bounds 0 0) ∷ []) 14)
    × (state_after 15 records4 zero_parameters ≡ state (drop 3 records4) (bounds 0 0) (loop_frame loop4-2 (drop 3 records4) 0 [] (bounds 0 0) ∷ loop_frame loop4-1 (drop 2 records4) 1 (bounds 11 11 ∷ []) (bounds 0 0) ∷ loop_frame loop4-0 (drop 1 records4) 2 (bounds 176 176 ∷ bounds 155 155 ∷ []) (bounds 0 0) ∷ []) 15)
    × (state_after 16 records4 zero_parameters ≡ state (drop 7 records4) (bounds 935 935) [] 15)
    × (state_after 17 records4 zero_parameters ≡ state (drop 7 records4) (bounds 935 935) [] 15)
unfolding computes
states-4 = (refl, refl, refl, refl, refl, refl, refl, refl, refl, refl, refl, refl, refl, refl, refl, refl, refl, refl)

-- 5. ranked, not settled: a loop in an arm
abbrev loop5-0 : Loop
loop5-0 = loop_of 0 0 (pos 1) (form (pos 0) (pos 0 ∷ pos 0 ∷ pos 0 ∷ []) (pos 0 ∷ pos 0 ∷ pos 0 ∷ pos 0 ∷ [])) (form (pos 9) (pos 0 ∷ pos 0 ∷ pos 0 ∷ []) (pos 0 ∷ pos 0 ∷ pos 0 ∷ pos 0 ∷ []))

abbrev loop5-2 : Loop
loop5-2 = loop_of 0 0 (pos 1) (form (pos 0) (pos 0 ∷ pos 0 ∷ pos 0 ∷ []) (pos 0 ∷ pos 0 ∷ pos 0 ∷ pos 0 ∷ [])) (form (negsuc 0) (pos 1 ∷ pos 0 ∷ pos 0 ∷ []) (pos 0 ∷ pos 0 ∷ pos 0 ∷ pos 0 ∷ []))

abbrev records5 : List Record
records5 = loop_record loop5-0 ∷ choice_record ∷ loop_record loop5-2 ∷ work_record 1 1 ∷ end_record ∷ next_arm_record ∷ work_record 4 4 ∷ end_record ∷ end_record ∷ []

pub states-5 :
    (state_after 0 records5 zero_parameters ≡ state (drop 0 records5) (bounds 0 0) [] 0)
    × (state_after 1 records5 zero_parameters ≡ state (drop 1 records5) (bounds 0 0) (loop_frame loop5-0 (drop 1 records5) 0 [] (bounds 0 0) ∷ []) 1)
    × (state_after 2 records5 zero_parameters ≡ state_keeping (kept_arms ((bounds 0 0 ∷ bounds 4 4 ∷ []) ∷ []) []) (drop 1 records5) (bounds 0 0) (loop_frame loop5-0 (drop 1 records5) 1 (bounds 0 4 ∷ []) (bounds 0 0) ∷ []) 2)
    × (state_after 3 records5 zero_parameters ≡ state_keeping (kept_arms ((bounds 0 0 ∷ bounds 4 4 ∷ []) ∷ []) []) (drop 3 records5) (bounds 0 0) (loop_frame loop5-2 (drop 3 records5) 0 [] (bounds 0 0) ∷ choice_frame none (bounds 0 0) ∷ loop_frame loop5-0 (drop 1 records5) 1 (bounds 0 4 ∷ []) (bounds 0 0) ∷ []) 3)
    × (state_after 4 records5 zero_parameters ≡ state (drop 1 records5) (bounds 0 0) (loop_frame loop5-0 (drop 1 records5) 2 (bounds 1 8 ∷ []) (bounds 0 0) ∷ []) 4)
    × (state_after 5 records5 zero_parameters ≡ state (drop 3 records5) (bounds 0 0) (loop_frame loop5-2 (drop 3 records5) 0 [] (bounds 0 0) ∷ choice_frame none (bounds 0 0) ∷ loop_frame loop5-0 (drop 1 records5) 2 (bounds 1 8 ∷ []) (bounds 0 0) ∷ []) 5)
    × (state_after 6 records5 zero_parameters ≡ state (drop 1 records5) (bounds 0 0) (loop_frame loop5-0 (drop 1 records5) 3 (bounds 3 12 ∷ []) (bounds 0 0) ∷ []) 6)
    × (state_after 7 records5 zero_parameters ≡ state (drop 3 records5) (bounds 0 0) (loop_frame loop5-2 (drop 3 records5) 0 [] (bounds 0 0) ∷ choice_frame none (bounds 0 0) ∷ loop_frame loop5-0 (drop 1 records5) 3 (bounds 3 12 ∷ []) (bounds 0 0) ∷ []) 7)
    × (state_after 8 records5 zero_parameters ≡ state (drop 1 records5) (bounds 0 0) (loop_frame loop5-0 (drop 1 records5) 4 (bounds 6 16 ∷ []) (bounds 0 0) ∷ []) 8)
    × (state_after 9 records5 zero_parameters ≡ state (drop 3 records5) (bounds 0 0) (loop_frame loop5-2 (drop 3 records5) 0 [] (bounds 0 0) ∷ choice_frame none (bounds 0 0) ∷ loop_frame loop5-0 (drop 1 records5) 4 (bounds 6 16 ∷ []) (bounds 0 0) ∷ []) 9)
    × (state_after 10 records5 zero_parameters ≡ state (drop 1 records5) (bounds 0 0) (loop_frame loop5-0 (drop 1 records5) 5 (bounds 10 20 ∷ []) (bounds 0 0) ∷ []) 10)
    × (state_after 11 records5 zero_parameters ≡ state (drop 3 records5) (bounds 0 0) (loop_frame loop5-2 (drop 3 records5) 0 [] (bounds 0 0) ∷ choice_frame none (bounds 0 0) ∷ loop_frame loop5-0 (drop 1 records5) 5 (bounds 10 20 ∷ []) (bounds 0 0) ∷ []) 11)
    × (state_after 12 records5 zero_parameters ≡ state (drop 1 records5) (bounds 0 0) (loop_frame loop5-0 (drop 1 records5) 6 (bounds 14 25 ∷ []) (bounds 0 0) ∷ []) 12)
    × (state_after 13 records5 zero_parameters ≡ state (drop 3 records5) (bounds 0 0) (loop_frame loop5-2 (drop 3 records5) 0 [] (bounds 0 0) ∷ choice_frame none (bounds 0 0) ∷ loop_frame loop5-0 (drop 1 records5) 6 (bounds 14 25 ∷ []) (bounds 0 0) ∷ []) 13)
    × (state_after 14 records5 zero_parameters ≡ state (drop 1 records5) (bounds 0 0) (loop_frame loop5-0 (drop 1 records5) 7 (bounds 18 31 ∷ []) (bounds 0 0) ∷ []) 14)
    × (state_after 15 records5 zero_parameters ≡ state (drop 3 records5) (bounds 0 0) (loop_frame loop5-2 (drop 3 records5) 0 [] (bounds 0 0) ∷ choice_frame none (bounds 0 0) ∷ loop_frame loop5-0 (drop 1 records5) 7 (bounds 18 31 ∷ []) (bounds 0 0) ∷ []) 15)
    × (state_after 16 records5 zero_parameters ≡ state (drop 1 records5) (bounds 0 0) (loop_frame loop5-0 (drop 1 records5) 8 (bounds 22 38 ∷ []) (bounds 0 0) ∷ []) 16)
    × (state_after 17 records5 zero_parameters ≡ state (drop 3 records5) (bounds 0 0) (loop_frame loop5-2 (drop 3 records5) 0 [] (bounds 0 0) ∷ choice_frame none (bounds 0 0) ∷ loop_frame loop5-0 (drop 1 records5) 8 (bounds 22 38 ∷ []) (bounds 0 0) ∷ []) 17)
    × (state_after 18 records5 zero_parameters ≡ state (drop 1 records5) (bounds 0 0) (loop_frame loop5-0 (drop 1 records5) 9 (bounds 26 46 ∷ []) (bounds 0 0) ∷ []) 18)
    × (state_after 19 records5 zero_parameters ≡ state (drop 3 records5) (bounds 0 0) (loop_frame loop5-2 (drop 3 records5) 0 [] (bounds 0 0) ∷ choice_frame none (bounds 0 0) ∷ loop_frame loop5-0 (drop 1 records5) 9 (bounds 26 46 ∷ []) (bounds 0 0) ∷ []) 19)
    × (state_after 20 records5 zero_parameters ≡ state (drop 9 records5) (bounds 30 55) [] 19)
    × (state_after 21 records5 zero_parameters ≡ state (drop 9 records5) (bounds 30 55) [] 19)
unfolding computes
states-5 = (refl, refl, refl, refl, refl, refl, refl, refl, refl, refl, refl, refl, refl, refl, refl, refl, refl, refl, refl, refl, refl, refl)

-- 6. no trip
abbrev loop6-0 : Loop
loop6-0 = loop_of 0 0 (pos 3) (form (pos 0) (pos 0 ∷ pos 0 ∷ pos 0 ∷ []) (pos 0 ∷ pos 0 ∷ pos 0 ∷ pos 0 ∷ [])) (form (negsuc 0) (pos 0 ∷ pos 0 ∷ pos 0 ∷ []) (pos 0 ∷ pos 0 ∷ pos 0 ∷ pos 0 ∷ []))

abbrev records6 : List Record
records6 = loop_record loop6-0 ∷ work_record 1 1 ∷ end_record ∷ []

pub states-6 :
    (state_after 0 records6 zero_parameters ≡ state (drop 0 records6) (bounds 0 0) [] 0)
    × (state_after 1 records6 zero_parameters ≡ state (drop 3 records6) (bounds 0 0) [] 0)
    × (state_after 2 records6 zero_parameters ≡ state (drop 3 records6) (bounds 0 0) [] 0)
unfolding computes
states-6 = (refl, refl, refl)

-- 7. walked with start and step, the inner loop empty in later trips
abbrev loop7-0 : Loop
loop7-0 = loop_of 7 2 (pos 1) (form (pos 1) (pos 0 ∷ pos 0 ∷ pos 0 ∷ []) (pos 0 ∷ pos 0 ∷ pos 0 ∷ pos 0 ∷ [])) (form (pos 3) (pos 0 ∷ pos 0 ∷ pos 0 ∷ []) (pos 0 ∷ pos 0 ∷ pos 0 ∷ pos 0 ∷ []))

abbrev loop7-2 : Loop
loop7-2 = loop_of 5 1 (pos 1) (form (pos 0) (pos 1 ∷ pos 0 ∷ pos 0 ∷ []) (pos 0 ∷ pos 0 ∷ pos 0 ∷ pos 0 ∷ [])) (form (pos 1) (pos 0 ∷ pos 0 ∷ pos 0 ∷ []) (pos 0 ∷ pos 0 ∷ pos 0 ∷ pos 0 ∷ []))

abbrev records7 : List Record
records7 = loop_record loop7-0 ∷ work_record 1 3 ∷ loop_record loop7-2 ∷ work_record 2 4 ∷ end_record ∷ end_record ∷ []

pub states-7 :
    (state_after 0 records7 zero_parameters ≡ state (drop 0 records7) (bounds 0 0) [] 0)
    × (state_after 1 records7 zero_parameters ≡ state (drop 1 records7) (bounds 0 0) (loop_frame loop7-0 (drop 1 records7) 0 [] (bounds 7 7) ∷ []) 1)
    × (state_after 2 records7 zero_parameters ≡ state (drop 3 records7) (bounds 0 0) (loop_frame loop7-2 (drop 3 records7) 0 [] (bounds 6 8) ∷ loop_frame loop7-0 (drop 1 records7) 0 [] (bounds 7 7) ∷ []) 2)
    × (state_after 3 records7 zero_parameters ≡ state (drop 1 records7) (bounds 0 0) (loop_frame loop7-0 (drop 1 records7) 1 (bounds 11 15 ∷ []) (bounds 7 7) ∷ []) 3)
    × (state_after 4 records7 zero_parameters ≡ state (drop 1 records7) (bounds 0 0) (loop_frame loop7-0 (drop 1 records7) 2 (bounds 19 25 ∷ []) (bounds 7 7) ∷ []) 4)
    × (state_after 5 records7 zero_parameters ≡ state (drop 6 records7) (bounds 34 42) [] 4)
    × (state_after 6 records7 zero_parameters ≡ state (drop 6 records7) (bounds 34 42) [] 4)
unfolding computes
states-7 = (refl, refl, refl, refl, refl, refl, refl)

-- 8. a choice of three arms in a closed nest, a work after it
abbrev loop8-0 : Loop
loop8-0 = loop_of 1 2 (pos 1) (form (pos 0) (pos 0 ∷ pos 0 ∷ pos 0 ∷ []) (pos 0 ∷ pos 0 ∷ pos 0 ∷ pos 0 ∷ [])) (form (pos 4) (pos 0 ∷ pos 0 ∷ pos 0 ∷ []) (pos 0 ∷ pos 0 ∷ pos 0 ∷ pos 0 ∷ []))

abbrev loop8-9 : Loop
loop8-9 = loop_of 4 6 (pos 1) (form (pos 0) (pos 0 ∷ pos 0 ∷ pos 0 ∷ []) (pos 0 ∷ pos 0 ∷ pos 0 ∷ pos 0 ∷ [])) (form (pos 0) (pos 1 ∷ pos 0 ∷ pos 0 ∷ []) (pos 0 ∷ pos 0 ∷ pos 0 ∷ pos 0 ∷ []))

abbrev records8 : List Record
records8 = loop_record loop8-0 ∷ choice_record ∷ work_record 3 4 ∷ next_arm_record ∷ work_record 1 9 ∷ next_arm_record ∷ work_record 2 2 ∷ end_record ∷ work_record 3 5 ∷ loop_record loop8-9 ∷ work_record 0 1 ∷ end_record ∷ end_record ∷ []

pub states-8 :
    (state_after 0 records8 zero_parameters ≡ state (drop 0 records8) (bounds 0 0) [] 0)
    × (state_after 1 records8 zero_parameters ≡ state (drop 1 records8) (bounds 0 0) (loop_frame loop8-0 (drop 1 records8) 0 [] (bounds 1 1) ∷ []) 1)
    × (state_after 2 records8 zero_parameters ≡ state (drop 10 records8) (bounds 0 0) (loop_frame loop8-9 (drop 10 records8) 0 [] (bounds 8 18) ∷ loop_frame loop8-0 (drop 1 records8) 0 [] (bounds 1 1) ∷ []) 2)
    × (state_after 3 records8 zero_parameters ≡ state (drop 1 records8) (bounds 0 0) (loop_frame loop8-0 (drop 1 records8) 1 (bounds 16 27 ∷ []) (bounds 1 1) ∷ []) 3)
    × (state_after 4 records8 zero_parameters ≡ state (drop 10 records8) (bounds 0 0) (loop_frame loop8-9 (drop 10 records8) 0 [] (bounds 8 18) ∷ loop_frame loop8-0 (drop 1 records8) 1 (bounds 16 27 ∷ []) (bounds 1 1) ∷ []) 4)
    × (state_after 5 records8 zero_parameters ≡ state (drop 13 records8) (bounds 141 206) [] 4)
    × (state_after 6 records8 zero_parameters ≡ state (drop 13 records8) (bounds 141 206) [] 4)
unfolding computes
states-8 = (refl, refl, refl, refl, refl, refl, refl)

-- 9. loops in both arms of a sheet's choice, a work after it
abbrev loop9-2 : Loop
loop9-2 = loop_of 0 1 (pos 1) (form (pos 0) (pos 0 ∷ pos 0 ∷ pos 0 ∷ []) (pos 0 ∷ pos 0 ∷ pos 0 ∷ pos 0 ∷ [])) (form (pos 4) (pos 0 ∷ pos 0 ∷ pos 0 ∷ []) (pos 0 ∷ pos 0 ∷ pos 0 ∷ pos 0 ∷ []))

abbrev loop9-6 : Loop
loop9-6 = loop_of 9 0 (pos 1) (form (pos 0) (pos 0 ∷ pos 0 ∷ pos 0 ∷ []) (pos 0 ∷ pos 0 ∷ pos 0 ∷ pos 0 ∷ [])) (form (pos 2) (pos 0 ∷ pos 0 ∷ pos 0 ∷ []) (pos 0 ∷ pos 0 ∷ pos 0 ∷ pos 0 ∷ []))

abbrev records9 : List Record
records9 = work_record 1 1 ∷ choice_record ∷ loop_record loop9-2 ∷ work_record 2 3 ∷ end_record ∷ next_arm_record ∷ loop_record loop9-6 ∷ work_record 1 7 ∷ end_record ∷ work_record 5 5 ∷ end_record ∷ work_record 2 8 ∷ []

pub states-9 :
    (state_after 0 records9 zero_parameters ≡ state (drop 0 records9) (bounds 0 0) [] 0)
    × (state_after 1 records9 zero_parameters ≡ state (drop 3 records9) (bounds 0 0) (loop_frame loop9-2 (drop 3 records9) 0 [] (bounds 0 0) ∷ choice_frame none (bounds 1 1) ∷ []) 1)
    × (state_after 2 records9 zero_parameters ≡ state (drop 7 records9) (bounds 0 0) (loop_frame loop9-6 (drop 7 records9) 0 [] (bounds 9 9) ∷ choice_frame (some (bounds 15 20)) (bounds 1 1) ∷ []) 2)
    × (state_after 3 records9 zero_parameters ≡ state (drop 12 records9) (bounds 18 44) [] 2)
    × (state_after 4 records9 zero_parameters ≡ state (drop 12 records9) (bounds 18 44) [] 2)
unfolding computes
states-9 = (refl, refl, refl, refl, refl)

-- 10. a closed nest in a ranked loop
abbrev loop10-0 : Loop
loop10-0 = loop_of 3 1 (pos 1) (form (pos 0) (pos 0 ∷ pos 0 ∷ pos 0 ∷ []) (pos 0 ∷ pos 0 ∷ pos 0 ∷ pos 0 ∷ [])) (form (pos 2) (pos 0 ∷ pos 0 ∷ pos 0 ∷ []) (pos 0 ∷ pos 0 ∷ pos 0 ∷ pos 0 ∷ []))

abbrev loop10-2 : Loop
loop10-2 = loop_of 1 2 (pos 1) (form (pos 0) (pos 0 ∷ pos 0 ∷ pos 0 ∷ []) (pos 0 ∷ pos 0 ∷ pos 0 ∷ pos 0 ∷ [])) (form (pos 3) (pos 1 ∷ pos 0 ∷ pos 0 ∷ []) (pos 0 ∷ pos 0 ∷ pos 0 ∷ pos 0 ∷ []))

abbrev loop10-3 : Loop
loop10-3 = loop_of 0 1 (pos 1) (form (pos 0) (pos 0 ∷ pos 0 ∷ pos 0 ∷ []) (pos 0 ∷ pos 0 ∷ pos 0 ∷ pos 0 ∷ [])) (form (pos 0) (pos 0 ∷ pos 1 ∷ pos 0 ∷ []) (pos 0 ∷ pos 0 ∷ pos 0 ∷ pos 0 ∷ []))

abbrev records10 : List Record
records10 = loop_record loop10-0 ∷ choice_record ∷ loop_record loop10-2 ∷ loop_record loop10-3 ∷ work_record 1 2 ∷ end_record ∷ end_record ∷ next_arm_record ∷ work_record 6 60 ∷ end_record ∷ end_record ∷ []

pub states-10 :
    (state_after 0 records10 zero_parameters ≡ state (drop 0 records10) (bounds 0 0) [] 0)
    × (state_after 1 records10 zero_parameters ≡ state (drop 1 records10) (bounds 0 0) (loop_frame loop10-0 (drop 1 records10) 0 [] (bounds 3 3) ∷ []) 1)
    × (state_after 2 records10 zero_parameters ≡ state (drop 3 records10) (bounds 0 0) (loop_frame loop10-2 (drop 3 records10) 0 [] (bounds 1 1) ∷ choice_frame none (bounds 0 0) ∷ loop_frame loop10-0 (drop 1 records10) 0 [] (bounds 3 3) ∷ []) 2)
    × (state_after 3 records10 zero_parameters ≡ state (drop 4 records10) (bounds 0 0) (loop_frame loop10-3 (drop 4 records10) 0 [] (bounds 0 0) ∷ loop_frame loop10-2 (drop 3 records10) 0 [] (bounds 1 1) ∷ choice_frame none (bounds 0 0) ∷ loop_frame loop10-0 (drop 1 records10) 0 [] (bounds 3 3) ∷ []) 3)
    × (state_after 4 records10 zero_parameters ≡ state (drop 3 records10) (bounds 0 0) (loop_frame loop10-2 (drop 3 records10) 1 (bounds 4 5 ∷ []) (bounds 1 1) ∷ choice_frame none (bounds 0 0) ∷ loop_frame loop10-0 (drop 1 records10) 0 [] (bounds 3 3) ∷ []) 4)
    × (state_after 5 records10 zero_parameters ≡ state (drop 4 records10) (bounds 0 0) (loop_frame loop10-3 (drop 4 records10) 0 [] (bounds 0 0) ∷ loop_frame loop10-2 (drop 3 records10) 1 (bounds 4 5 ∷ []) (bounds 1 1) ∷ choice_frame none (bounds 0 0) ∷ loop_frame loop10-0 (drop 1 records10) 0 [] (bounds 3 3) ∷ []) 5)
    × (state_after 6 records10 zero_parameters ≡ state_keeping (kept_arms ((bounds 29 39 ∷ bounds 6 60 ∷ []) ∷ []) []) (drop 1 records10) (bounds 0 0) (loop_frame loop10-0 (drop 1 records10) 1 (bounds 7 61 ∷ []) (bounds 3 3) ∷ []) 6)
    × (state_after 7 records10 zero_parameters ≡ state_keeping (kept_arms ((bounds 29 39 ∷ bounds 6 60 ∷ []) ∷ []) []) (drop 3 records10) (bounds 0 0) (loop_frame loop10-2 (drop 3 records10) 0 [] (bounds 1 1) ∷ choice_frame none (bounds 0 0) ∷ loop_frame loop10-0 (drop 1 records10) 1 (bounds 7 61 ∷ []) (bounds 3 3) ∷ []) 7)
    × (state_after 8 records10 zero_parameters ≡ state_keeping (kept_arms ((bounds 29 39 ∷ bounds 6 60 ∷ []) ∷ []) []) (drop 4 records10) (bounds 0 0) (loop_frame loop10-3 (drop 4 records10) 0 [] (bounds 0 0) ∷ loop_frame loop10-2 (drop 3 records10) 0 [] (bounds 1 1) ∷ choice_frame none (bounds 0 0) ∷ loop_frame loop10-0 (drop 1 records10) 1 (bounds 7 61 ∷ []) (bounds 3 3) ∷ []) 8)
    × (state_after 9 records10 zero_parameters ≡ state_keeping (kept_arms ((bounds 29 39 ∷ bounds 6 60 ∷ []) ∷ []) []) (drop 3 records10) (bounds 0 0) (loop_frame loop10-2 (drop 3 records10) 1 (bounds 4 5 ∷ []) (bounds 1 1) ∷ choice_frame none (bounds 0 0) ∷ loop_frame loop10-0 (drop 1 records10) 1 (bounds 7 61 ∷ []) (bounds 3 3) ∷ []) 9)
    × (state_after 10 records10 zero_parameters ≡ state_keeping (kept_arms ((bounds 29 39 ∷ bounds 6 60 ∷ []) ∷ []) []) (drop 4 records10) (bounds 0 0) (loop_frame loop10-3 (drop 4 records10) 0 [] (bounds 0 0) ∷ loop_frame loop10-2 (drop 3 records10) 1 (bounds 4 5 ∷ []) (bounds 1 1) ∷ choice_frame none (bounds 0 0) ∷ loop_frame loop10-0 (drop 1 records10) 1 (bounds 7 61 ∷ []) (bounds 3 3) ∷ []) 10)
    × (state_after 11 records10 zero_parameters ≡ state_keeping (kept_arms ((bounds 29 39 ∷ bounds 6 60 ∷ []) ∷ (bounds 41 56 ∷ bounds 6 60 ∷ []) ∷ []) []) (drop 1 records10) (bounds 0 0) (loop_frame loop10-0 (drop 1 records10) 2 (bounds 7 61 ∷ bounds 7 61 ∷ []) (bounds 3 3) ∷ []) 11)
    × (state_after 12 records10 zero_parameters ≡ state_keeping (kept_arms ((bounds 29 39 ∷ bounds 6 60 ∷ []) ∷ (bounds 41 56 ∷ bounds 6 60 ∷ []) ∷ []) []) (drop 3 records10) (bounds 0 0) (loop_frame loop10-2 (drop 3 records10) 0 [] (bounds 1 1) ∷ choice_frame none (bounds 0 0) ∷ loop_frame loop10-0 (drop 1 records10) 2 (bounds 7 61 ∷ bounds 7 61 ∷ []) (bounds 3 3) ∷ []) 12)
    × (state_after 13 records10 zero_parameters ≡ state_keeping (kept_arms ((bounds 29 39 ∷ bounds 6 60 ∷ []) ∷ (bounds 41 56 ∷ bounds 6 60 ∷ []) ∷ []) []) (drop 4 records10) (bounds 0 0) (loop_frame loop10-3 (drop 4 records10) 0 [] (bounds 0 0) ∷ loop_frame loop10-2 (drop 3 records10) 0 [] (bounds 1 1) ∷ choice_frame none (bounds 0 0) ∷ loop_frame loop10-0 (drop 1 records10) 2 (bounds 7 61 ∷ bounds 7 61 ∷ []) (bounds 3 3) ∷ []) 13)
    × (state_after 14 records10 zero_parameters ≡ state_keeping (kept_arms ((bounds 29 39 ∷ bounds 6 60 ∷ []) ∷ (bounds 41 56 ∷ bounds 6 60 ∷ []) ∷ []) []) (drop 3 records10) (bounds 0 0) (loop_frame loop10-2 (drop 3 records10) 1 (bounds 4 5 ∷ []) (bounds 1 1) ∷ choice_frame none (bounds 0 0) ∷ loop_frame loop10-0 (drop 1 records10) 2 (bounds 7 61 ∷ bounds 7 61 ∷ []) (bounds 3 3) ∷ []) 14)
    × (state_after 15 records10 zero_parameters ≡ state_keeping (kept_arms ((bounds 29 39 ∷ bounds 6 60 ∷ []) ∷ (bounds 41 56 ∷ bounds 6 60 ∷ []) ∷ []) []) (drop 4 records10) (bounds 0 0) (loop_frame loop10-3 (drop 4 records10) 0 [] (bounds 0 0) ∷ loop_frame loop10-2 (drop 3 records10) 1 (bounds 4 5 ∷ []) (bounds 1 1) ∷ choice_frame none (bounds 0 0) ∷ loop_frame loop10-0 (drop 1 records10) 2 (bounds 7 61 ∷ bounds 7 61 ∷ []) (bounds 3 3) ∷ []) 15)
    × (state_after 16 records10 zero_parameters ≡ state (drop 11 records10) (bounds 24 202) [] 15)
    × (state_after 17 records10 zero_parameters ≡ state (drop 11 records10) (bounds 24 202) [] 15)
unfolding computes
states-10 = (refl, refl, refl, refl, refl, refl, refl, refl, refl, refl, refl, refl, refl, refl, refl, refl, refl, refl)

-- 11. a loop with no trip in the middle, choices in it
abbrev loop11-1 : Loop
loop11-1 = loop_of 7 9 (pos 1) (form (pos 5) (pos 0 ∷ pos 0 ∷ pos 0 ∷ []) (pos 0 ∷ pos 0 ∷ pos 0 ∷ pos 0 ∷ [])) (form (pos 4) (pos 0 ∷ pos 0 ∷ pos 0 ∷ []) (pos 0 ∷ pos 0 ∷ pos 0 ∷ pos 0 ∷ []))

abbrev loop11-5 : Loop
loop11-5 = loop_of 0 0 (pos 1) (form (pos 0) (pos 0 ∷ pos 0 ∷ pos 0 ∷ []) (pos 0 ∷ pos 0 ∷ pos 0 ∷ pos 0 ∷ [])) (form (pos 3) (pos 0 ∷ pos 0 ∷ pos 0 ∷ []) (pos 0 ∷ pos 0 ∷ pos 0 ∷ pos 0 ∷ []))

abbrev records11 : List Record
records11 = work_record 1 2 ∷ loop_record loop11-1 ∷ choice_record ∷ work_record 4 4 ∷ next_arm_record ∷ loop_record loop11-5 ∷ end_record ∷ end_record ∷ end_record ∷ work_record 10 20 ∷ []

pub states-11 :
    (state_after 0 records11 zero_parameters ≡ state (drop 0 records11) (bounds 0 0) [] 0)
    × (state_after 1 records11 zero_parameters ≡ state (drop 10 records11) (bounds 18 29) [] 0)
    × (state_after 2 records11 zero_parameters ≡ state (drop 10 records11) (bounds 18 29) [] 0)
unfolding computes
states-11 = (refl, refl, refl)

-- 12. two loops after one another, twice
abbrev loop12-0 : Loop
loop12-0 = loop_of 1 0 (pos 1) (form (pos 0) (pos 0 ∷ pos 0 ∷ pos 0 ∷ []) (pos 0 ∷ pos 0 ∷ pos 0 ∷ pos 0 ∷ [])) (form (pos 3) (pos 0 ∷ pos 0 ∷ pos 0 ∷ []) (pos 0 ∷ pos 0 ∷ pos 0 ∷ pos 0 ∷ []))

abbrev loop12-1 : Loop
loop12-1 = loop_of 0 0 (pos 1) (form (pos 0) (pos 0 ∷ pos 0 ∷ pos 0 ∷ []) (pos 0 ∷ pos 0 ∷ pos 0 ∷ pos 0 ∷ [])) (form (pos 0) (pos 1 ∷ pos 0 ∷ pos 0 ∷ []) (pos 0 ∷ pos 0 ∷ pos 0 ∷ pos 0 ∷ []))

abbrev loop12-4 : Loop
loop12-4 = loop_of 0 2 (pos 1) (form (pos 0) (negsuc 0 ∷ pos 0 ∷ pos 0 ∷ []) (pos 0 ∷ pos 0 ∷ pos 0 ∷ pos 0 ∷ [])) (form (pos 3) (pos 0 ∷ pos 0 ∷ pos 0 ∷ []) (pos 0 ∷ pos 0 ∷ pos 0 ∷ pos 0 ∷ []))

abbrev loop12-8 : Loop
loop12-8 = loop_of 0 1 (pos 4) (form (pos 0) (pos 0 ∷ pos 0 ∷ pos 0 ∷ []) (pos 0 ∷ pos 0 ∷ pos 0 ∷ pos 0 ∷ [])) (form (pos 8) (pos 0 ∷ pos 0 ∷ pos 0 ∷ []) (pos 0 ∷ pos 0 ∷ pos 0 ∷ pos 0 ∷ []))

abbrev records12 : List Record
records12 = loop_record loop12-0 ∷ loop_record loop12-1 ∷ work_record 1 1 ∷ end_record ∷ loop_record loop12-4 ∷ work_record 0 2 ∷ end_record ∷ end_record ∷ loop_record loop12-8 ∷ work_record 3 3 ∷ end_record ∷ []

pub states-12 :
    (state_after 0 records12 zero_parameters ≡ state (drop 0 records12) (bounds 0 0) [] 0)
    × (state_after 1 records12 zero_parameters ≡ state (drop 1 records12) (bounds 0 0) (loop_frame loop12-0 (drop 1 records12) 0 [] (bounds 1 1) ∷ []) 1)
    × (state_after 2 records12 zero_parameters ≡ state (drop 2 records12) (bounds 0 0) (loop_frame loop12-1 (drop 2 records12) 0 [] (bounds 0 0) ∷ loop_frame loop12-0 (drop 1 records12) 0 [] (bounds 1 1) ∷ []) 2)
    × (state_after 3 records12 zero_parameters ≡ state (drop 5 records12) (bounds 0 0) (loop_frame loop12-4 (drop 5 records12) 0 [] (bounds 1 1) ∷ loop_frame loop12-0 (drop 1 records12) 0 [] (bounds 1 1) ∷ []) 3)
    × (state_after 4 records12 zero_parameters ≡ state (drop 1 records12) (bounds 0 0) (loop_frame loop12-0 (drop 1 records12) 1 (bounds 9 17 ∷ []) (bounds 1 1) ∷ []) 4)
    × (state_after 5 records12 zero_parameters ≡ state (drop 2 records12) (bounds 0 0) (loop_frame loop12-1 (drop 2 records12) 0 [] (bounds 0 0) ∷ loop_frame loop12-0 (drop 1 records12) 1 (bounds 9 17 ∷ []) (bounds 1 1) ∷ []) 5)
    × (state_after 6 records12 zero_parameters ≡ state (drop 5 records12) (bounds 0 0) (loop_frame loop12-4 (drop 5 records12) 0 [] (bounds 2 2) ∷ loop_frame loop12-0 (drop 1 records12) 1 (bounds 9 17 ∷ []) (bounds 1 1) ∷ []) 6)
    × (state_after 7 records12 zero_parameters ≡ state (drop 9 records12) (bounds 0 0) (loop_frame loop12-8 (drop 9 records12) 0 [] (bounds 55 99) ∷ []) 7)
    × (state_after 8 records12 zero_parameters ≡ state (drop 11 records12) (bounds 67 111) [] 7)
    × (state_after 9 records12 zero_parameters ≡ state (drop 11 records12) (bounds 67 111) [] 7)
unfolding computes
states-12 = (refl, refl, refl, refl, refl, refl, refl, refl, refl, refl)

-- 13. choices in choices, empty arms, in a loop
abbrev loop13-0 : Loop
loop13-0 = loop_of 0 1 (pos 1) (form (pos 1) (pos 0 ∷ pos 0 ∷ pos 0 ∷ []) (pos 0 ∷ pos 0 ∷ pos 0 ∷ pos 0 ∷ [])) (form (pos 2) (pos 0 ∷ pos 0 ∷ pos 0 ∷ []) (pos 0 ∷ pos 0 ∷ pos 0 ∷ pos 0 ∷ []))

abbrev loop13-10 : Loop
loop13-10 = loop_of 0 0 (pos 2) (form (pos 3) (pos 0 ∷ pos 0 ∷ pos 0 ∷ []) (pos 0 ∷ pos 0 ∷ pos 0 ∷ pos 0 ∷ [])) (form (pos 3) (pos 1 ∷ pos 0 ∷ pos 0 ∷ []) (pos 0 ∷ pos 0 ∷ pos 0 ∷ pos 0 ∷ []))

abbrev records13 : List Record
records13 = loop_record loop13-0 ∷ choice_record ∷ choice_record ∷ work_record 2 3 ∷ next_arm_record ∷ end_record ∷ work_record 1 1 ∷ next_arm_record ∷ choice_record ∷ end_record ∷ loop_record loop13-10 ∷ work_record 1 1 ∷ end_record ∷ end_record ∷ work_record 4 4 ∷ end_record ∷ []

pub states-13 :
    (state_after 0 records13 zero_parameters ≡ state (drop 0 records13) (bounds 0 0) [] 0)
    × (state_after 1 records13 zero_parameters ≡ state (drop 1 records13) (bounds 0 0) (loop_frame loop13-0 (drop 1 records13) 0 [] (bounds 0 0) ∷ []) 1)
    × (state_after 2 records13 zero_parameters ≡ state (drop 11 records13) (bounds 0 0) (loop_frame loop13-10 (drop 11 records13) 0 [] (bounds 0 0) ∷ choice_frame (some (bounds 1 4)) (bounds 0 0) ∷ loop_frame loop13-0 (drop 1 records13) 0 [] (bounds 0 0) ∷ []) 2)
    × (state_after 3 records13 zero_parameters ≡ state (drop 1 records13) (bounds 0 0) (loop_frame loop13-0 (drop 1 records13) 1 (bounds 6 9 ∷ []) (bounds 0 0) ∷ []) 3)
    × (state_after 4 records13 zero_parameters ≡ state (drop 11 records13) (bounds 0 0) (loop_frame loop13-10 (drop 11 records13) 0 [] (bounds 0 0) ∷ choice_frame (some (bounds 1 4)) (bounds 0 0) ∷ loop_frame loop13-0 (drop 1 records13) 1 (bounds 6 9 ∷ []) (bounds 0 0) ∷ []) 4)
    × (state_after 5 records13 zero_parameters ≡ state (drop 16 records13) (bounds 12 18) [] 4)
    × (state_after 6 records13 zero_parameters ≡ state (drop 16 records13) (bounds 12 18) [] 4)
unfolding computes
states-13 = (refl, refl, refl, refl, refl, refl, refl)

-- 14. three arms, the first with both extremes; a nest in the last, walked by the outer range
abbrev loop14-0 : Loop
loop14-0 = loop_of 0 1 (pos 1) (form (pos 0) (pos 0 ∷ pos 0 ∷ pos 0 ∷ []) (pos 0 ∷ pos 0 ∷ pos 0 ∷ pos 0 ∷ [])) (form (pos 3) (pos 0 ∷ pos 0 ∷ pos 0 ∷ []) (pos 0 ∷ pos 0 ∷ pos 0 ∷ pos 0 ∷ []))

abbrev loop14-6 : Loop
loop14-6 = loop_of 0 0 (pos 1) (form (pos 0) (pos 0 ∷ pos 0 ∷ pos 0 ∷ []) (pos 0 ∷ pos 0 ∷ pos 0 ∷ pos 0 ∷ [])) (form (pos 2) (pos 0 ∷ pos 0 ∷ pos 0 ∷ []) (pos 0 ∷ pos 0 ∷ pos 0 ∷ pos 0 ∷ []))

abbrev loop14-7 : Loop
loop14-7 = loop_of 0 0 (pos 1) (form (pos 0) (pos 1 ∷ pos 0 ∷ pos 0 ∷ []) (pos 0 ∷ pos 0 ∷ pos 0 ∷ pos 0 ∷ [])) (form (pos 1) (pos 0 ∷ pos 0 ∷ pos 0 ∷ []) (pos 0 ∷ pos 0 ∷ pos 0 ∷ pos 0 ∷ []))

abbrev records14 : List Record
records14 = loop_record loop14-0 ∷ choice_record ∷ work_record 1 90 ∷ next_arm_record ∷ work_record 3 4 ∷ next_arm_record ∷ loop_record loop14-6 ∷ loop_record loop14-7 ∷ work_record 1 1 ∷ end_record ∷ end_record ∷ end_record ∷ end_record ∷ []

pub states-14 :
    (state_after 0 records14 zero_parameters ≡ state (drop 0 records14) (bounds 0 0) [] 0)
    × (state_after 1 records14 zero_parameters ≡ state (drop 1 records14) (bounds 0 0) (loop_frame loop14-0 (drop 1 records14) 0 [] (bounds 0 0) ∷ []) 1)
    × (state_after 2 records14 zero_parameters ≡ state (drop 7 records14) (bounds 0 0) (loop_frame loop14-6 (drop 7 records14) 0 [] (bounds 0 0) ∷ choice_frame (some (bounds 1 90)) (bounds 0 0) ∷ loop_frame loop14-0 (drop 1 records14) 0 [] (bounds 0 0) ∷ []) 2)
    × (state_after 3 records14 zero_parameters ≡ state (drop 8 records14) (bounds 0 0) (loop_frame loop14-7 (drop 8 records14) 0 [] (bounds 0 0) ∷ loop_frame loop14-6 (drop 7 records14) 0 [] (bounds 0 0) ∷ choice_frame (some (bounds 1 90)) (bounds 0 0) ∷ loop_frame loop14-0 (drop 1 records14) 0 [] (bounds 0 0) ∷ []) 3)
    × (state_after 4 records14 zero_parameters ≡ state (drop 7 records14) (bounds 0 0) (loop_frame loop14-6 (drop 7 records14) 1 (bounds 2 2 ∷ []) (bounds 0 0) ∷ choice_frame (some (bounds 1 90)) (bounds 0 0) ∷ loop_frame loop14-0 (drop 1 records14) 0 [] (bounds 0 0) ∷ []) 4)
    × (state_after 5 records14 zero_parameters ≡ state (drop 8 records14) (bounds 0 0) (loop_frame loop14-7 (drop 8 records14) 0 [] (bounds 0 0) ∷ loop_frame loop14-6 (drop 7 records14) 1 (bounds 2 2 ∷ []) (bounds 0 0) ∷ choice_frame (some (bounds 1 90)) (bounds 0 0) ∷ loop_frame loop14-0 (drop 1 records14) 0 [] (bounds 0 0) ∷ []) 5)
    × (state_after 6 records14 zero_parameters ≡ state (drop 7 records14) (bounds 0 0) (loop_frame loop14-6 (drop 7 records14) 2 (bounds 4 4 ∷ []) (bounds 0 0) ∷ choice_frame (some (bounds 1 90)) (bounds 0 0) ∷ loop_frame loop14-0 (drop 1 records14) 0 [] (bounds 0 0) ∷ []) 6)
    × (state_after 7 records14 zero_parameters ≡ state (drop 8 records14) (bounds 0 0) (loop_frame loop14-7 (drop 8 records14) 0 [] (bounds 0 0) ∷ loop_frame loop14-6 (drop 7 records14) 2 (bounds 4 4 ∷ []) (bounds 0 0) ∷ choice_frame (some (bounds 1 90)) (bounds 0 0) ∷ loop_frame loop14-0 (drop 1 records14) 0 [] (bounds 0 0) ∷ []) 7)
    × (state_after 8 records14 zero_parameters ≡ state (drop 1 records14) (bounds 0 0) (loop_frame loop14-0 (drop 1 records14) 1 (bounds 2 91 ∷ []) (bounds 0 0) ∷ []) 8)
    × (state_after 9 records14 zero_parameters ≡ state (drop 7 records14) (bounds 0 0) (loop_frame loop14-6 (drop 7 records14) 0 [] (bounds 0 0) ∷ choice_frame (some (bounds 1 90)) (bounds 0 0) ∷ loop_frame loop14-0 (drop 1 records14) 1 (bounds 2 91 ∷ []) (bounds 0 0) ∷ []) 9)
    × (state_after 10 records14 zero_parameters ≡ state (drop 8 records14) (bounds 0 0) (loop_frame loop14-7 (drop 8 records14) 0 [] (bounds 0 0) ∷ loop_frame loop14-6 (drop 7 records14) 0 [] (bounds 0 0) ∷ choice_frame (some (bounds 1 90)) (bounds 0 0) ∷ loop_frame loop14-0 (drop 1 records14) 1 (bounds 2 91 ∷ []) (bounds 0 0) ∷ []) 10)
    × (state_after 11 records14 zero_parameters ≡ state (drop 7 records14) (bounds 0 0) (loop_frame loop14-6 (drop 7 records14) 1 (bounds 1 1 ∷ []) (bounds 0 0) ∷ choice_frame (some (bounds 1 90)) (bounds 0 0) ∷ loop_frame loop14-0 (drop 1 records14) 1 (bounds 2 91 ∷ []) (bounds 0 0) ∷ []) 11)
    × (state_after 12 records14 zero_parameters ≡ state (drop 8 records14) (bounds 0 0) (loop_frame loop14-7 (drop 8 records14) 0 [] (bounds 0 0) ∷ loop_frame loop14-6 (drop 7 records14) 1 (bounds 1 1 ∷ []) (bounds 0 0) ∷ choice_frame (some (bounds 1 90)) (bounds 0 0) ∷ loop_frame loop14-0 (drop 1 records14) 1 (bounds 2 91 ∷ []) (bounds 0 0) ∷ []) 12)
    × (state_after 13 records14 zero_parameters ≡ state (drop 7 records14) (bounds 0 0) (loop_frame loop14-6 (drop 7 records14) 2 (bounds 2 2 ∷ []) (bounds 0 0) ∷ choice_frame (some (bounds 1 90)) (bounds 0 0) ∷ loop_frame loop14-0 (drop 1 records14) 1 (bounds 2 91 ∷ []) (bounds 0 0) ∷ []) 13)
    × (state_after 14 records14 zero_parameters ≡ state (drop 8 records14) (bounds 0 0) (loop_frame loop14-7 (drop 8 records14) 0 [] (bounds 0 0) ∷ loop_frame loop14-6 (drop 7 records14) 2 (bounds 2 2 ∷ []) (bounds 0 0) ∷ choice_frame (some (bounds 1 90)) (bounds 0 0) ∷ loop_frame loop14-0 (drop 1 records14) 1 (bounds 2 91 ∷ []) (bounds 0 0) ∷ []) 14)
    × (state_after 15 records14 zero_parameters ≡ state (drop 1 records14) (bounds 0 0) (loop_frame loop14-0 (drop 1 records14) 2 (bounds 4 182 ∷ []) (bounds 0 0) ∷ []) 15)
    × (state_after 16 records14 zero_parameters ≡ state (drop 7 records14) (bounds 0 0) (loop_frame loop14-6 (drop 7 records14) 0 [] (bounds 0 0) ∷ choice_frame (some (bounds 1 90)) (bounds 0 0) ∷ loop_frame loop14-0 (drop 1 records14) 2 (bounds 4 182 ∷ []) (bounds 0 0) ∷ []) 16)
    × (state_after 17 records14 zero_parameters ≡ state (drop 7 records14) (bounds 0 0) (loop_frame loop14-6 (drop 7 records14) 1 (bounds 0 0 ∷ []) (bounds 0 0) ∷ choice_frame (some (bounds 1 90)) (bounds 0 0) ∷ loop_frame loop14-0 (drop 1 records14) 2 (bounds 4 182 ∷ []) (bounds 0 0) ∷ []) 17)
    × (state_after 18 records14 zero_parameters ≡ state (drop 7 records14) (bounds 0 0) (loop_frame loop14-6 (drop 7 records14) 2 (bounds 0 0 ∷ []) (bounds 0 0) ∷ choice_frame (some (bounds 1 90)) (bounds 0 0) ∷ loop_frame loop14-0 (drop 1 records14) 2 (bounds 4 182 ∷ []) (bounds 0 0) ∷ []) 18)
    × (state_after 19 records14 zero_parameters ≡ state (drop 1 records14) (bounds 0 0) (loop_frame loop14-0 (drop 1 records14) 3 (bounds 5 273 ∷ []) (bounds 0 0) ∷ []) 19)
    × (state_after 20 records14 zero_parameters ≡ state (drop 7 records14) (bounds 0 0) (loop_frame loop14-6 (drop 7 records14) 0 [] (bounds 0 0) ∷ choice_frame (some (bounds 1 90)) (bounds 0 0) ∷ loop_frame loop14-0 (drop 1 records14) 3 (bounds 5 273 ∷ []) (bounds 0 0) ∷ []) 20)
    × (state_after 21 records14 zero_parameters ≡ state (drop 7 records14) (bounds 0 0) (loop_frame loop14-6 (drop 7 records14) 1 (bounds 0 0 ∷ []) (bounds 0 0) ∷ choice_frame (some (bounds 1 90)) (bounds 0 0) ∷ loop_frame loop14-0 (drop 1 records14) 3 (bounds 5 273 ∷ []) (bounds 0 0) ∷ []) 21)
    × (state_after 22 records14 zero_parameters ≡ state (drop 7 records14) (bounds 0 0) (loop_frame loop14-6 (drop 7 records14) 2 (bounds 0 0 ∷ []) (bounds 0 0) ∷ choice_frame (some (bounds 1 90)) (bounds 0 0) ∷ loop_frame loop14-0 (drop 1 records14) 3 (bounds 5 273 ∷ []) (bounds 0 0) ∷ []) 22)
    × (state_after 23 records14 zero_parameters ≡ state (drop 13 records14) (bounds 6 364) [] 22)
    × (state_after 24 records14 zero_parameters ≡ state (drop 13 records14) (bounds 6 364) [] 22)
unfolding computes
states-14 = (refl, refl, refl, refl, refl, refl, refl, refl, refl, refl, refl, refl, refl, refl, refl, refl, refl, refl, refl, refl, refl, refl, refl, refl, refl)

-- 15. skip in place of start, and start in place of skip
abbrev loop15-1 : Loop
loop15-1 = skip_loop_of 7 9 (pos 1) (form (pos 5) (pos 0 ∷ pos 0 ∷ pos 0 ∷ []) (pos 0 ∷ pos 0 ∷ pos 0 ∷ pos 0 ∷ [])) (form (pos 4) (pos 0 ∷ pos 0 ∷ pos 0 ∷ []) (pos 0 ∷ pos 0 ∷ pos 0 ∷ pos 0 ∷ [])) 3

abbrev loop15-4 : Loop
loop15-4 = skip_loop_of 7 1 (pos 1) (form (pos 0) (pos 0 ∷ pos 0 ∷ pos 0 ∷ []) (pos 0 ∷ pos 0 ∷ pos 0 ∷ pos 0 ∷ [])) (form (pos 1) (pos 0 ∷ pos 0 ∷ pos 0 ∷ []) (pos 0 ∷ pos 0 ∷ pos 0 ∷ pos 0 ∷ [])) 3

abbrev records15 : List Record
records15 = work_record 1 2 ∷ loop_record loop15-1 ∷ work_record 1 1 ∷ end_record ∷ loop_record loop15-4 ∷ work_record 1 1 ∷ end_record ∷ work_record 10 20 ∷ []

pub states-15 :
    (state_after 0 records15 zero_parameters ≡ state (drop 0 records15) (bounds 0 0) [] 0)
    × (state_after 1 records15 zero_parameters ≡ state (drop 5 records15) (bounds 0 0) (loop_frame loop15-4 (drop 5 records15) 0 [] (bounds 11 12) ∷ []) 1)
    × (state_after 2 records15 zero_parameters ≡ state (drop 8 records15) (bounds 25 36) [] 1)
    × (state_after 3 records15 zero_parameters ≡ state (drop 8 records15) (bounds 25 36) [] 1)
unfolding computes
states-15 = (refl, refl, refl, refl)

-- 16. walked: the inner loop pays skip in the first trip
abbrev loop16-0 : Loop
loop16-0 = loop_of 1 0 (pos 1) (form (pos 0) (pos 0 ∷ pos 0 ∷ pos 0 ∷ []) (pos 0 ∷ pos 0 ∷ pos 0 ∷ pos 0 ∷ [])) (form (pos 2) (pos 0 ∷ pos 0 ∷ pos 0 ∷ []) (pos 0 ∷ pos 0 ∷ pos 0 ∷ pos 0 ∷ []))

abbrev loop16-1 : Loop
loop16-1 = skip_loop_of 5 1 (pos 1) (form (pos 0) (pos 0 ∷ pos 0 ∷ pos 0 ∷ []) (pos 0 ∷ pos 0 ∷ pos 0 ∷ pos 0 ∷ [])) (form (negsuc 0) (pos 1 ∷ pos 0 ∷ pos 0 ∷ []) (pos 0 ∷ pos 0 ∷ pos 0 ∷ pos 0 ∷ [])) 2

abbrev records16 : List Record
records16 = loop_record loop16-0 ∷ loop_record loop16-1 ∷ work_record 1 3 ∷ end_record ∷ end_record ∷ []

pub states-16 :
    (state_after 0 records16 zero_parameters ≡ state (drop 0 records16) (bounds 0 0) [] 0)
    × (state_after 1 records16 zero_parameters ≡ state (drop 1 records16) (bounds 0 0) (loop_frame loop16-0 (drop 1 records16) 0 [] (bounds 1 1) ∷ []) 1)
    × (state_after 2 records16 zero_parameters ≡ state (drop 1 records16) (bounds 0 0) (loop_frame loop16-0 (drop 1 records16) 1 (bounds 2 2 ∷ []) (bounds 1 1) ∷ []) 2)
    × (state_after 3 records16 zero_parameters ≡ state (drop 2 records16) (bounds 0 0) (loop_frame loop16-1 (drop 2 records16) 0 [] (bounds 5 5) ∷ loop_frame loop16-0 (drop 1 records16) 1 (bounds 2 2 ∷ []) (bounds 1 1) ∷ []) 3)
    × (state_after 4 records16 zero_parameters ≡ state (drop 1 records16) (bounds 0 0) (loop_frame loop16-0 (drop 1 records16) 2 (bounds 9 11 ∷ []) (bounds 1 1) ∷ []) 4)
    × (state_after 5 records16 zero_parameters ≡ state (drop 2 records16) (bounds 0 0) (loop_frame loop16-1 (drop 2 records16) 0 [] (bounds 5 5) ∷ loop_frame loop16-0 (drop 1 records16) 2 (bounds 9 11 ∷ []) (bounds 1 1) ∷ []) 5)
    × (state_after 6 records16 zero_parameters ≡ state (drop 5 records16) (bounds 19 25) [] 5)
    × (state_after 7 records16 zero_parameters ≡ state (drop 5 records16) (bounds 19 25) [] 5)
unfolding computes
states-16 = (refl, refl, refl, refl, refl, refl, refl, refl)

-- 17. closed: the inner loop, of kind 6, has a trip at least
abbrev loop17-0 : Loop
loop17-0 = skip_loop_of 0 0 (pos 1) (form (pos 0) (pos 0 ∷ pos 0 ∷ pos 0 ∷ []) (pos 0 ∷ pos 0 ∷ pos 0 ∷ pos 0 ∷ [])) (form (pos 3) (pos 0 ∷ pos 0 ∷ pos 0 ∷ []) (pos 0 ∷ pos 0 ∷ pos 0 ∷ pos 0 ∷ [])) 4

abbrev loop17-1 : Loop
loop17-1 = skip_loop_of 5 0 (pos 1) (form (pos 0) (pos 0 ∷ pos 0 ∷ pos 0 ∷ []) (pos 0 ∷ pos 0 ∷ pos 0 ∷ pos 0 ∷ [])) (form (pos 0) (pos 1 ∷ pos 0 ∷ pos 0 ∷ []) (pos 0 ∷ pos 0 ∷ pos 0 ∷ pos 0 ∷ [])) 2

abbrev records17 : List Record
records17 = loop_record loop17-0 ∷ loop_record loop17-1 ∷ work_record 1 1 ∷ end_record ∷ end_record ∷ []

pub states-17 :
    (state_after 0 records17 zero_parameters ≡ state (drop 0 records17) (bounds 0 0) [] 0)
    × (state_after 1 records17 zero_parameters ≡ state (drop 1 records17) (bounds 0 0) (loop_frame loop17-0 (drop 1 records17) 0 [] (bounds 0 0) ∷ []) 1)
    × (state_after 2 records17 zero_parameters ≡ state (drop 2 records17) (bounds 0 0) (loop_frame loop17-1 (drop 2 records17) 0 [] (bounds 5 5) ∷ loop_frame loop17-0 (drop 1 records17) 0 [] (bounds 0 0) ∷ []) 2)
    × (state_after 3 records17 zero_parameters ≡ state (drop 1 records17) (bounds 0 0) (loop_frame loop17-0 (drop 1 records17) 1 (bounds 6 6 ∷ []) (bounds 0 0) ∷ []) 3)
    × (state_after 4 records17 zero_parameters ≡ state (drop 2 records17) (bounds 0 0) (loop_frame loop17-1 (drop 2 records17) 0 [] (bounds 5 5) ∷ loop_frame loop17-0 (drop 1 records17) 1 (bounds 6 6 ∷ []) (bounds 0 0) ∷ []) 4)
    × (state_after 5 records17 zero_parameters ≡ state (drop 5 records17) (bounds 30 30) [] 4)
    × (state_after 6 records17 zero_parameters ≡ state (drop 5 records17) (bounds 30 30) [] 4)
unfolding computes
states-17 = (refl, refl, refl, refl, refl, refl, refl)

-- 18. skip in an arm
abbrev loop18-0 : Loop
loop18-0 = loop_of 0 0 (pos 1) (form (pos 0) (pos 0 ∷ pos 0 ∷ pos 0 ∷ []) (pos 0 ∷ pos 0 ∷ pos 0 ∷ pos 0 ∷ [])) (form (pos 1) (pos 0 ∷ pos 0 ∷ pos 0 ∷ []) (pos 0 ∷ pos 0 ∷ pos 0 ∷ pos 0 ∷ []))

abbrev loop18-2 : Loop
loop18-2 = skip_loop_of 9 0 (pos 1) (form (pos 0) (pos 0 ∷ pos 0 ∷ pos 0 ∷ []) (pos 0 ∷ pos 0 ∷ pos 0 ∷ pos 0 ∷ [])) (form (negsuc 0) (pos 1 ∷ pos 0 ∷ pos 0 ∷ []) (pos 0 ∷ pos 0 ∷ pos 0 ∷ pos 0 ∷ [])) 2

abbrev records18 : List Record
records18 = loop_record loop18-0 ∷ choice_record ∷ loop_record loop18-2 ∷ work_record 1 1 ∷ end_record ∷ next_arm_record ∷ work_record 4 4 ∷ end_record ∷ end_record ∷ []

pub states-18 :
    (state_after 0 records18 zero_parameters ≡ state (drop 0 records18) (bounds 0 0) [] 0)
    × (state_after 1 records18 zero_parameters ≡ state (drop 1 records18) (bounds 0 0) (loop_frame loop18-0 (drop 1 records18) 0 [] (bounds 0 0) ∷ []) 1)
    × (state_after 2 records18 zero_parameters ≡ state (drop 1 records18) (bounds 0 0) (loop_frame loop18-0 (drop 1 records18) 1 (bounds 2 4 ∷ []) (bounds 0 0) ∷ []) 2)
    × (state_after 3 records18 zero_parameters ≡ state (drop 3 records18) (bounds 0 0) (loop_frame loop18-2 (drop 3 records18) 0 [] (bounds 9 9) ∷ choice_frame none (bounds 0 0) ∷ loop_frame loop18-0 (drop 1 records18) 1 (bounds 2 4 ∷ []) (bounds 0 0) ∷ []) 3)
    × (state_after 4 records18 zero_parameters ≡ state (drop 9 records18) (bounds 6 14) [] 3)
    × (state_after 5 records18 zero_parameters ≡ state (drop 9 records18) (bounds 6 14) [] 3)
unfolding computes
states-18 = (refl, refl, refl, refl, refl, refl)

-- 19. closed, both directions: i 2 down to 0, j i to 3
abbrev loop19-0 : Loop
loop19-0 = loop_of 1 1 (negsuc 0) (form (pos 2) (pos 0 ∷ pos 0 ∷ pos 0 ∷ []) (pos 0 ∷ pos 0 ∷ pos 0 ∷ pos 0 ∷ [])) (form (pos 0) (pos 0 ∷ pos 0 ∷ pos 0 ∷ []) (pos 0 ∷ pos 0 ∷ pos 0 ∷ pos 0 ∷ []))

abbrev loop19-1 : Loop
loop19-1 = loop_of 2 0 (pos 1) (form (pos 0) (pos 1 ∷ pos 0 ∷ pos 0 ∷ []) (pos 0 ∷ pos 0 ∷ pos 0 ∷ pos 0 ∷ [])) (form (pos 3) (pos 0 ∷ pos 0 ∷ pos 0 ∷ []) (pos 0 ∷ pos 0 ∷ pos 0 ∷ pos 0 ∷ []))

abbrev records19 : List Record
records19 = loop_record loop19-0 ∷ loop_record loop19-1 ∷ work_record 1 2 ∷ end_record ∷ end_record ∷ []

pub states-19 :
    (state_after 0 records19 zero_parameters ≡ state (drop 0 records19) (bounds 0 0) [] 0)
    × (state_after 1 records19 zero_parameters ≡ state (drop 1 records19) (bounds 0 0) (loop_frame loop19-0 (drop 1 records19) 0 [] (bounds 1 1) ∷ []) 1)
    × (state_after 2 records19 zero_parameters ≡ state (drop 2 records19) (bounds 0 0) (loop_frame loop19-1 (drop 2 records19) 0 [] (bounds 2 2) ∷ loop_frame loop19-0 (drop 1 records19) 0 [] (bounds 1 1) ∷ []) 2)
    × (state_after 3 records19 zero_parameters ≡ state (drop 1 records19) (bounds 0 0) (loop_frame loop19-0 (drop 1 records19) 1 (bounds 5 7 ∷ []) (bounds 1 1) ∷ []) 3)
    × (state_after 4 records19 zero_parameters ≡ state (drop 2 records19) (bounds 0 0) (loop_frame loop19-1 (drop 2 records19) 0 [] (bounds 2 2) ∷ loop_frame loop19-0 (drop 1 records19) 1 (bounds 5 7 ∷ []) (bounds 1 1) ∷ []) 4)
    × (state_after 5 records19 zero_parameters ≡ state (drop 5 records19) (bounds 19 28) [] 4)
    × (state_after 6 records19 zero_parameters ≡ state (drop 5 records19) (bounds 19 28) [] 4)
unfolding computes
states-19 = (refl, refl, refl, refl, refl, refl, refl)

-- 20. walked, both directions: i 0 to 2, j i down to 0 by 2
abbrev loop20-0 : Loop
loop20-0 = loop_of 0 0 (pos 1) (form (pos 0) (pos 0 ∷ pos 0 ∷ pos 0 ∷ []) (pos 0 ∷ pos 0 ∷ pos 0 ∷ pos 0 ∷ [])) (form (pos 2) (pos 0 ∷ pos 0 ∷ pos 0 ∷ []) (pos 0 ∷ pos 0 ∷ pos 0 ∷ pos 0 ∷ []))

abbrev loop20-1 : Loop
loop20-1 = loop_of 1 3 (negsuc 1) (form (pos 0) (pos 1 ∷ pos 0 ∷ pos 0 ∷ []) (pos 0 ∷ pos 0 ∷ pos 0 ∷ pos 0 ∷ [])) (form (pos 0) (pos 0 ∷ pos 0 ∷ pos 0 ∷ []) (pos 0 ∷ pos 0 ∷ pos 0 ∷ pos 0 ∷ []))

abbrev records20 : List Record
records20 = loop_record loop20-0 ∷ loop_record loop20-1 ∷ work_record 1 2 ∷ end_record ∷ end_record ∷ []

pub states-20 :
    (state_after 0 records20 zero_parameters ≡ state (drop 0 records20) (bounds 0 0) [] 0)
    × (state_after 1 records20 zero_parameters ≡ state (drop 1 records20) (bounds 0 0) (loop_frame loop20-0 (drop 1 records20) 0 [] (bounds 0 0) ∷ []) 1)
    × (state_after 2 records20 zero_parameters ≡ state (drop 2 records20) (bounds 0 0) (loop_frame loop20-1 (drop 2 records20) 0 [] (bounds 1 1) ∷ loop_frame loop20-0 (drop 1 records20) 0 [] (bounds 0 0) ∷ []) 2)
    × (state_after 3 records20 zero_parameters ≡ state (drop 1 records20) (bounds 0 0) (loop_frame loop20-0 (drop 1 records20) 1 (bounds 5 6 ∷ []) (bounds 0 0) ∷ []) 3)
    × (state_after 4 records20 zero_parameters ≡ state (drop 2 records20) (bounds 0 0) (loop_frame loop20-1 (drop 2 records20) 0 [] (bounds 1 1) ∷ loop_frame loop20-0 (drop 1 records20) 1 (bounds 5 6 ∷ []) (bounds 0 0) ∷ []) 4)
    × (state_after 5 records20 zero_parameters ≡ state (drop 1 records20) (bounds 0 0) (loop_frame loop20-0 (drop 1 records20) 2 (bounds 10 12 ∷ []) (bounds 0 0) ∷ []) 5)
    × (state_after 6 records20 zero_parameters ≡ state (drop 2 records20) (bounds 0 0) (loop_frame loop20-1 (drop 2 records20) 0 [] (bounds 1 1) ∷ loop_frame loop20-0 (drop 1 records20) 2 (bounds 10 12 ∷ []) (bounds 0 0) ∷ []) 6)
    × (state_after 7 records20 zero_parameters ≡ state (drop 5 records20) (bounds 19 23) [] 6)
    × (state_after 8 records20 zero_parameters ≡ state (drop 5 records20) (bounds 19 23) [] 6)
unfolding computes
states-20 = (refl, refl, refl, refl, refl, refl, refl, refl, refl)

-- 21. ranked, settled: two choices, a work between them, a loop in each
abbrev loop21-0 : Loop
loop21-0 = loop_of 3 1 (pos 1) (form (pos 0) (pos 0 ∷ pos 0 ∷ pos 0 ∷ []) (pos 0 ∷ pos 0 ∷ pos 0 ∷ pos 0 ∷ [])) (form (pos 4) (pos 0 ∷ pos 0 ∷ pos 0 ∷ []) (pos 0 ∷ pos 0 ∷ pos 0 ∷ pos 0 ∷ []))

abbrev loop21-3 : Loop
loop21-3 = loop_of 1 0 (pos 1) (form (pos 0) (pos 0 ∷ pos 0 ∷ pos 0 ∷ []) (pos 0 ∷ pos 0 ∷ pos 0 ∷ pos 0 ∷ [])) (form (pos 0) (pos 1 ∷ pos 0 ∷ pos 0 ∷ []) (pos 0 ∷ pos 0 ∷ pos 0 ∷ pos 0 ∷ []))

abbrev loop21-11 : Loop
loop21-11 = loop_of 0 2 (pos 1) (form (pos 0) (pos 0 ∷ pos 0 ∷ pos 0 ∷ []) (pos 0 ∷ pos 0 ∷ pos 0 ∷ pos 0 ∷ [])) (form (negsuc 0) (pos 1 ∷ pos 0 ∷ pos 0 ∷ []) (pos 0 ∷ pos 0 ∷ pos 0 ∷ pos 0 ∷ []))

abbrev records21 : List Record
records21 = loop_record loop21-0 ∷ choice_record ∷ work_record 1 2 ∷ loop_record loop21-3 ∷ work_record 2 3 ∷ end_record ∷ next_arm_record ∷ work_record 1 1 ∷ end_record ∷ work_record 0 4 ∷ choice_record ∷ loop_record loop21-11 ∷ work_record 1 1 ∷ end_record ∷ next_arm_record ∷ end_record ∷ end_record ∷ []

pub states-21 :
    (state_after 0 records21 zero_parameters ≡ state (drop 0 records21) (bounds 0 0) [] 0)
    × (state_after 1 records21 zero_parameters ≡ state (drop 1 records21) (bounds 0 0) (loop_frame loop21-0 (drop 1 records21) 0 [] (bounds 3 3) ∷ []) 1)
    × (state_after 2 records21 zero_parameters ≡ state (drop 4 records21) (bounds 0 0) (loop_frame loop21-3 (drop 4 records21) 0 [] (bounds 2 3) ∷ choice_frame none (bounds 0 0) ∷ loop_frame loop21-0 (drop 1 records21) 0 [] (bounds 3 3) ∷ []) 2)
    × (state_after 3 records21 zero_parameters ≡ state_keeping (kept_arms ((bounds 4 6 ∷ bounds 1 1 ∷ bounds 0 0 ∷ bounds 0 0 ∷ []) ∷ []) []) (drop 1 records21) (bounds 0 0) (loop_frame loop21-0 (drop 1 records21) 1 (bounds 2 11 ∷ []) (bounds 3 3) ∷ []) 3)
    × (state_after 4 records21 zero_parameters ≡ state_keeping (kept_arms ((bounds 4 6 ∷ bounds 1 1 ∷ bounds 0 0 ∷ bounds 0 0 ∷ []) ∷ []) []) (drop 4 records21) (bounds 0 0) (loop_frame loop21-3 (drop 4 records21) 0 [] (bounds 2 3) ∷ choice_frame none (bounds 0 0) ∷ loop_frame loop21-0 (drop 1 records21) 1 (bounds 2 11 ∷ []) (bounds 3 3) ∷ []) 4)
    × (state_after 5 records21 zero_parameters ≡ state_keeping (kept_arms ((bounds 4 6 ∷ bounds 1 1 ∷ bounds 0 0 ∷ bounds 0 0 ∷ []) ∷ []) (bounds 6 9 ∷ bounds 1 1 ∷ [])) (drop 12 records21) (bounds 0 0) (loop_frame loop21-11 (drop 12 records21) 0 [] (bounds 0 0) ∷ choice_frame none (bounds 1 13) ∷ loop_frame loop21-0 (drop 1 records21) 1 (bounds 2 11 ∷ []) (bounds 3 3) ∷ []) 5)
    × (state_after 6 records21 zero_parameters ≡ state (drop 17 records21) (bounds 13 118) [] 5)
    × (state_after 7 records21 zero_parameters ≡ state (drop 17 records21) (bounds 13 118) [] 5)
unfolding computes
states-21 = (refl, refl, refl, refl, refl, refl, refl, refl)

-- 22. ranked, settled, height 2: three arms, a choice without loops in one
abbrev loop22-0 : Loop
loop22-0 = loop_of 0 0 (pos 1) (form (pos 0) (pos 0 ∷ pos 0 ∷ pos 0 ∷ []) (pos 0 ∷ pos 0 ∷ pos 0 ∷ pos 0 ∷ [])) (form (pos 5) (pos 0 ∷ pos 0 ∷ pos 0 ∷ []) (pos 0 ∷ pos 0 ∷ pos 0 ∷ pos 0 ∷ []))

abbrev loop22-2 : Loop
loop22-2 = loop_of 0 1 (pos 1) (form (pos 0) (pos 0 ∷ pos 0 ∷ pos 0 ∷ []) (pos 0 ∷ pos 0 ∷ pos 0 ∷ pos 0 ∷ [])) (form (pos 0) (pos 1 ∷ pos 0 ∷ pos 0 ∷ []) (pos 0 ∷ pos 0 ∷ pos 0 ∷ pos 0 ∷ []))

abbrev loop22-3 : Loop
loop22-3 = loop_of 0 0 (pos 1) (form (pos 0) (pos 0 ∷ pos 0 ∷ pos 0 ∷ []) (pos 0 ∷ pos 0 ∷ pos 0 ∷ pos 0 ∷ [])) (form (pos 0) (pos 0 ∷ pos 1 ∷ pos 0 ∷ []) (pos 0 ∷ pos 0 ∷ pos 0 ∷ pos 0 ∷ []))

abbrev loop22-14 : Loop
loop22-14 = loop_of 0 0 (pos 1) (form (pos 0) (pos 0 ∷ pos 0 ∷ pos 0 ∷ []) (pos 0 ∷ pos 0 ∷ pos 0 ∷ pos 0 ∷ [])) (form (pos 0) (pos 1 ∷ pos 0 ∷ pos 0 ∷ []) (pos 0 ∷ pos 0 ∷ pos 0 ∷ pos 0 ∷ []))

abbrev records22 : List Record
records22 = loop_record loop22-0 ∷ choice_record ∷ loop_record loop22-2 ∷ loop_record loop22-3 ∷ work_record 1 2 ∷ end_record ∷ end_record ∷ next_arm_record ∷ choice_record ∷ work_record 1 1 ∷ next_arm_record ∷ work_record 0 2 ∷ end_record ∷ next_arm_record ∷ loop_record loop22-14 ∷ work_record 1 1 ∷ end_record ∷ end_record ∷ end_record ∷ []

pub states-22 :
    (state_after 0 records22 zero_parameters ≡ state (drop 0 records22) (bounds 0 0) [] 0)
    × (state_after 1 records22 zero_parameters ≡ state (drop 1 records22) (bounds 0 0) (loop_frame loop22-0 (drop 1 records22) 0 [] (bounds 0 0) ∷ []) 1)
    × (state_after 2 records22 zero_parameters ≡ state (drop 3 records22) (bounds 0 0) (loop_frame loop22-2 (drop 3 records22) 0 [] (bounds 0 0) ∷ choice_frame none (bounds 0 0) ∷ loop_frame loop22-0 (drop 1 records22) 0 [] (bounds 0 0) ∷ []) 2)
    × (state_after 3 records22 zero_parameters ≡ state (drop 4 records22) (bounds 0 0) (loop_frame loop22-3 (drop 4 records22) 0 [] (bounds 0 0) ∷ loop_frame loop22-2 (drop 3 records22) 0 [] (bounds 0 0) ∷ choice_frame none (bounds 0 0) ∷ loop_frame loop22-0 (drop 1 records22) 0 [] (bounds 0 0) ∷ []) 3)
    × (state_after 4 records22 zero_parameters ≡ state_keeping (kept_arms [] (bounds 2 3 ∷ bounds 0 2 ∷ [])) (drop 15 records22) (bounds 0 0) (loop_frame loop22-14 (drop 15 records22) 0 [] (bounds 0 0) ∷ choice_frame (some (bounds 0 3)) (bounds 0 0) ∷ loop_frame loop22-0 (drop 1 records22) 0 [] (bounds 0 0) ∷ []) 4)
    × (state_after 5 records22 zero_parameters ≡ state_keeping (kept_arms ((bounds 2 3 ∷ bounds 0 2 ∷ bounds 1 1 ∷ []) ∷ []) []) (drop 1 records22) (bounds 0 0) (loop_frame loop22-0 (drop 1 records22) 1 (bounds 0 3 ∷ []) (bounds 0 0) ∷ []) 5)
    × (state_after 6 records22 zero_parameters ≡ state_keeping (kept_arms ((bounds 2 3 ∷ bounds 0 2 ∷ bounds 1 1 ∷ []) ∷ []) []) (drop 3 records22) (bounds 0 0) (loop_frame loop22-2 (drop 3 records22) 0 [] (bounds 0 0) ∷ choice_frame none (bounds 0 0) ∷ loop_frame loop22-0 (drop 1 records22) 1 (bounds 0 3 ∷ []) (bounds 0 0) ∷ []) 6)
    × (state_after 7 records22 zero_parameters ≡ state_keeping (kept_arms ((bounds 2 3 ∷ bounds 0 2 ∷ bounds 1 1 ∷ []) ∷ []) []) (drop 4 records22) (bounds 0 0) (loop_frame loop22-3 (drop 4 records22) 0 [] (bounds 0 0) ∷ loop_frame loop22-2 (drop 3 records22) 0 [] (bounds 0 0) ∷ choice_frame none (bounds 0 0) ∷ loop_frame loop22-0 (drop 1 records22) 1 (bounds 0 3 ∷ []) (bounds 0 0) ∷ []) 7)
    × (state_after 8 records22 zero_parameters ≡ state_keeping (kept_arms ((bounds 2 3 ∷ bounds 0 2 ∷ bounds 1 1 ∷ []) ∷ []) []) (drop 3 records22) (bounds 0 0) (loop_frame loop22-2 (drop 3 records22) 1 (bounds 2 3 ∷ []) (bounds 0 0) ∷ choice_frame none (bounds 0 0) ∷ loop_frame loop22-0 (drop 1 records22) 1 (bounds 0 3 ∷ []) (bounds 0 0) ∷ []) 8)
    × (state_after 9 records22 zero_parameters ≡ state_keeping (kept_arms ((bounds 2 3 ∷ bounds 0 2 ∷ bounds 1 1 ∷ []) ∷ []) []) (drop 4 records22) (bounds 0 0) (loop_frame loop22-3 (drop 4 records22) 0 [] (bounds 0 0) ∷ loop_frame loop22-2 (drop 3 records22) 1 (bounds 2 3 ∷ []) (bounds 0 0) ∷ choice_frame none (bounds 0 0) ∷ loop_frame loop22-0 (drop 1 records22) 1 (bounds 0 3 ∷ []) (bounds 0 0) ∷ []) 9)
    × (state_after 10 records22 zero_parameters ≡ state_keeping (kept_arms ((bounds 2 3 ∷ bounds 0 2 ∷ bounds 1 1 ∷ []) ∷ []) (bounds 5 8 ∷ bounds 0 2 ∷ [])) (drop 15 records22) (bounds 0 0) (loop_frame loop22-14 (drop 15 records22) 0 [] (bounds 0 0) ∷ choice_frame (some (bounds 0 8)) (bounds 0 0) ∷ loop_frame loop22-0 (drop 1 records22) 1 (bounds 0 3 ∷ []) (bounds 0 0) ∷ []) 10)
    × (state_after 11 records22 zero_parameters ≡ state_keeping (kept_arms ((bounds 2 3 ∷ bounds 0 2 ∷ bounds 1 1 ∷ []) ∷ (bounds 5 8 ∷ bounds 0 2 ∷ bounds 2 2 ∷ []) ∷ []) []) (drop 1 records22) (bounds 0 0) (loop_frame loop22-0 (drop 1 records22) 2 (bounds 0 3 ∷ bounds 0 8 ∷ []) (bounds 0 0) ∷ []) 11)
    × (state_after 12 records22 zero_parameters ≡ state_keeping (kept_arms ((bounds 2 3 ∷ bounds 0 2 ∷ bounds 1 1 ∷ []) ∷ (bounds 5 8 ∷ bounds 0 2 ∷ bounds 2 2 ∷ []) ∷ []) []) (drop 3 records22) (bounds 0 0) (loop_frame loop22-2 (drop 3 records22) 0 [] (bounds 0 0) ∷ choice_frame none (bounds 0 0) ∷ loop_frame loop22-0 (drop 1 records22) 2 (bounds 0 3 ∷ bounds 0 8 ∷ []) (bounds 0 0) ∷ []) 12)
    × (state_after 13 records22 zero_parameters ≡ state_keeping (kept_arms ((bounds 2 3 ∷ bounds 0 2 ∷ bounds 1 1 ∷ []) ∷ (bounds 5 8 ∷ bounds 0 2 ∷ bounds 2 2 ∷ []) ∷ []) []) (drop 4 records22) (bounds 0 0) (loop_frame loop22-3 (drop 4 records22) 0 [] (bounds 0 0) ∷ loop_frame loop22-2 (drop 3 records22) 0 [] (bounds 0 0) ∷ choice_frame none (bounds 0 0) ∷ loop_frame loop22-0 (drop 1 records22) 2 (bounds 0 3 ∷ bounds 0 8 ∷ []) (bounds 0 0) ∷ []) 13)
    × (state_after 14 records22 zero_parameters ≡ state_keeping (kept_arms ((bounds 2 3 ∷ bounds 0 2 ∷ bounds 1 1 ∷ []) ∷ (bounds 5 8 ∷ bounds 0 2 ∷ bounds 2 2 ∷ []) ∷ []) []) (drop 3 records22) (bounds 0 0) (loop_frame loop22-2 (drop 3 records22) 1 (bounds 2 3 ∷ []) (bounds 0 0) ∷ choice_frame none (bounds 0 0) ∷ loop_frame loop22-0 (drop 1 records22) 2 (bounds 0 3 ∷ bounds 0 8 ∷ []) (bounds 0 0) ∷ []) 14)
    × (state_after 15 records22 zero_parameters ≡ state_keeping (kept_arms ((bounds 2 3 ∷ bounds 0 2 ∷ bounds 1 1 ∷ []) ∷ (bounds 5 8 ∷ bounds 0 2 ∷ bounds 2 2 ∷ []) ∷ []) []) (drop 4 records22) (bounds 0 0) (loop_frame loop22-3 (drop 4 records22) 0 [] (bounds 0 0) ∷ loop_frame loop22-2 (drop 3 records22) 1 (bounds 2 3 ∷ []) (bounds 0 0) ∷ choice_frame none (bounds 0 0) ∷ loop_frame loop22-0 (drop 1 records22) 2 (bounds 0 3 ∷ bounds 0 8 ∷ []) (bounds 0 0) ∷ []) 15)
    × (state_after 16 records22 zero_parameters ≡ state_keeping (kept_arms ((bounds 2 3 ∷ bounds 0 2 ∷ bounds 1 1 ∷ []) ∷ (bounds 5 8 ∷ bounds 0 2 ∷ bounds 2 2 ∷ []) ∷ []) (bounds 9 15 ∷ bounds 0 2 ∷ [])) (drop 15 records22) (bounds 0 0) (loop_frame loop22-14 (drop 15 records22) 0 [] (bounds 0 0) ∷ choice_frame (some (bounds 0 15)) (bounds 0 0) ∷ loop_frame loop22-0 (drop 1 records22) 2 (bounds 0 3 ∷ bounds 0 8 ∷ []) (bounds 0 0) ∷ []) 16)
    × (state_after 17 records22 zero_parameters ≡ state (drop 19 records22) (bounds 0 133) [] 16)
    × (state_after 18 records22 zero_parameters ≡ state (drop 19 records22) (bounds 0 133) [] 16)
unfolding computes
states-22 = (refl, refl, refl, refl, refl, refl, refl, refl, refl, refl, refl, refl, refl, refl, refl, refl, refl, refl, refl)

-- 23. ranked, entered anew in a walked loop: settled at i = 1, not settled at i = 2 and 3
abbrev loop23-0 : Loop
loop23-0 = loop_of 0 1 (pos 1) (form (pos 1) (pos 0 ∷ pos 0 ∷ pos 0 ∷ []) (pos 0 ∷ pos 0 ∷ pos 0 ∷ pos 0 ∷ [])) (form (pos 3) (pos 0 ∷ pos 0 ∷ pos 0 ∷ []) (pos 0 ∷ pos 0 ∷ pos 0 ∷ pos 0 ∷ []))

abbrev loop23-1 : Loop
loop23-1 = loop_of 2 0 (pos 1) (form (pos 0) (pos 0 ∷ pos 0 ∷ pos 0 ∷ []) (pos 0 ∷ pos 0 ∷ pos 0 ∷ pos 0 ∷ [])) (form (pos 3) (pos 0 ∷ pos 0 ∷ pos 0 ∷ []) (pos 0 ∷ pos 0 ∷ pos 0 ∷ pos 0 ∷ []))

abbrev loop23-3 : Loop
loop23-3 = loop_of 0 0 (pos 1) (form (pos 0) (pos 0 ∷ pos 0 ∷ pos 0 ∷ []) (pos 0 ∷ pos 0 ∷ pos 0 ∷ pos 0 ∷ [])) (form (pos 0) (pos 0 ∷ pos 1 ∷ pos 0 ∷ []) (pos 0 ∷ pos 0 ∷ pos 0 ∷ pos 0 ∷ []))

abbrev loop23-7 : Loop
loop23-7 = loop_of 0 0 (pos 1) (form (pos 1) (pos 0 ∷ pos 0 ∷ pos 0 ∷ []) (pos 0 ∷ pos 0 ∷ pos 0 ∷ pos 0 ∷ [])) (form (pos 0) (pos 1 ∷ pos 0 ∷ pos 0 ∷ []) (pos 0 ∷ pos 0 ∷ pos 0 ∷ pos 0 ∷ []))

abbrev records23 : List Record
records23 = loop_record loop23-0 ∷ loop_record loop23-1 ∷ choice_record ∷ loop_record loop23-3 ∷ work_record 1 1 ∷ end_record ∷ next_arm_record ∷ loop_record loop23-7 ∷ work_record 1 1 ∷ end_record ∷ end_record ∷ end_record ∷ end_record ∷ []

pub states-23 :
    (state_after 0 records23 zero_parameters ≡ state (drop 0 records23) (bounds 0 0) [] 0)
    × (state_after 1 records23 zero_parameters ≡ state (drop 1 records23) (bounds 0 0) (loop_frame loop23-0 (drop 1 records23) 0 [] (bounds 0 0) ∷ []) 1)
    × (state_after 2 records23 zero_parameters ≡ state (drop 2 records23) (bounds 0 0) (loop_frame loop23-1 (drop 2 records23) 0 [] (bounds 2 2) ∷ loop_frame loop23-0 (drop 1 records23) 0 [] (bounds 0 0) ∷ []) 2)
    × (state_after 3 records23 zero_parameters ≡ state (drop 4 records23) (bounds 0 0) (loop_frame loop23-3 (drop 4 records23) 0 [] (bounds 0 0) ∷ choice_frame none (bounds 0 0) ∷ loop_frame loop23-1 (drop 2 records23) 0 [] (bounds 2 2) ∷ loop_frame loop23-0 (drop 1 records23) 0 [] (bounds 0 0) ∷ []) 3)
    × (state_after 4 records23 zero_parameters ≡ state_keeping (kept_arms [] (bounds 1 1 ∷ [])) (drop 8 records23) (bounds 0 0) (loop_frame loop23-7 (drop 8 records23) 0 [] (bounds 0 0) ∷ choice_frame (some (bounds 1 1)) (bounds 0 0) ∷ loop_frame loop23-1 (drop 2 records23) 0 [] (bounds 2 2) ∷ loop_frame loop23-0 (drop 1 records23) 0 [] (bounds 0 0) ∷ []) 4)
    × (state_after 5 records23 zero_parameters ≡ state_keeping (kept_arms ((bounds 1 1 ∷ bounds 1 1 ∷ []) ∷ []) []) (drop 2 records23) (bounds 0 0) (loop_frame loop23-1 (drop 2 records23) 1 (bounds 1 1 ∷ []) (bounds 2 2) ∷ loop_frame loop23-0 (drop 1 records23) 0 [] (bounds 0 0) ∷ []) 5)
    × (state_after 6 records23 zero_parameters ≡ state_keeping (kept_arms ((bounds 1 1 ∷ bounds 1 1 ∷ []) ∷ []) []) (drop 4 records23) (bounds 0 0) (loop_frame loop23-3 (drop 4 records23) 0 [] (bounds 0 0) ∷ choice_frame none (bounds 0 0) ∷ loop_frame loop23-1 (drop 2 records23) 1 (bounds 1 1 ∷ []) (bounds 2 2) ∷ loop_frame loop23-0 (drop 1 records23) 0 [] (bounds 0 0) ∷ []) 6)
    × (state_after 7 records23 zero_parameters ≡ state_keeping (kept_arms ((bounds 1 1 ∷ bounds 1 1 ∷ []) ∷ []) (bounds 2 2 ∷ [])) (drop 8 records23) (bounds 0 0) (loop_frame loop23-7 (drop 8 records23) 0 [] (bounds 0 0) ∷ choice_frame (some (bounds 2 2)) (bounds 0 0) ∷ loop_frame loop23-1 (drop 2 records23) 1 (bounds 1 1 ∷ []) (bounds 2 2) ∷ loop_frame loop23-0 (drop 1 records23) 0 [] (bounds 0 0) ∷ []) 7)
    × (state_after 8 records23 zero_parameters ≡ state (drop 1 records23) (bounds 0 0) (loop_frame loop23-0 (drop 1 records23) 1 (bounds 7 13 ∷ []) (bounds 0 0) ∷ []) 8)
    × (state_after 9 records23 zero_parameters ≡ state (drop 2 records23) (bounds 0 0) (loop_frame loop23-1 (drop 2 records23) 0 [] (bounds 2 2) ∷ loop_frame loop23-0 (drop 1 records23) 1 (bounds 7 13 ∷ []) (bounds 0 0) ∷ []) 9)
    × (state_after 10 records23 zero_parameters ≡ state (drop 4 records23) (bounds 0 0) (loop_frame loop23-3 (drop 4 records23) 0 [] (bounds 0 0) ∷ choice_frame none (bounds 0 0) ∷ loop_frame loop23-1 (drop 2 records23) 0 [] (bounds 2 2) ∷ loop_frame loop23-0 (drop 1 records23) 1 (bounds 7 13 ∷ []) (bounds 0 0) ∷ []) 10)
    × (state_after 11 records23 zero_parameters ≡ state_keeping (kept_arms [] (bounds 1 1 ∷ [])) (drop 8 records23) (bounds 0 0) (loop_frame loop23-7 (drop 8 records23) 0 [] (bounds 0 0) ∷ choice_frame (some (bounds 1 1)) (bounds 0 0) ∷ loop_frame loop23-1 (drop 2 records23) 0 [] (bounds 2 2) ∷ loop_frame loop23-0 (drop 1 records23) 1 (bounds 7 13 ∷ []) (bounds 0 0) ∷ []) 11)
    × (state_after 12 records23 zero_parameters ≡ state_keeping (kept_arms ((bounds 1 1 ∷ bounds 2 2 ∷ []) ∷ []) []) (drop 2 records23) (bounds 0 0) (loop_frame loop23-1 (drop 2 records23) 1 (bounds 1 2 ∷ []) (bounds 2 2) ∷ loop_frame loop23-0 (drop 1 records23) 1 (bounds 7 13 ∷ []) (bounds 0 0) ∷ []) 12)
    × (state_after 13 records23 zero_parameters ≡ state_keeping (kept_arms ((bounds 1 1 ∷ bounds 2 2 ∷ []) ∷ []) []) (drop 4 records23) (bounds 0 0) (loop_frame loop23-3 (drop 4 records23) 0 [] (bounds 0 0) ∷ choice_frame none (bounds 0 0) ∷ loop_frame loop23-1 (drop 2 records23) 1 (bounds 1 2 ∷ []) (bounds 2 2) ∷ loop_frame loop23-0 (drop 1 records23) 1 (bounds 7 13 ∷ []) (bounds 0 0) ∷ []) 13)
    × (state_after 14 records23 zero_parameters ≡ state_keeping (kept_arms ((bounds 1 1 ∷ bounds 2 2 ∷ []) ∷ []) (bounds 2 2 ∷ [])) (drop 8 records23) (bounds 0 0) (loop_frame loop23-7 (drop 8 records23) 0 [] (bounds 0 0) ∷ choice_frame (some (bounds 2 2)) (bounds 0 0) ∷ loop_frame loop23-1 (drop 2 records23) 1 (bounds 1 2 ∷ []) (bounds 2 2) ∷ loop_frame loop23-0 (drop 1 records23) 1 (bounds 7 13 ∷ []) (bounds 0 0) ∷ []) 14)
    × (state_after 15 records23 zero_parameters ≡ state (drop 2 records23) (bounds 0 0) (loop_frame loop23-1 (drop 2 records23) 2 (bounds 3 4 ∷ []) (bounds 2 2) ∷ loop_frame loop23-0 (drop 1 records23) 1 (bounds 7 13 ∷ []) (bounds 0 0) ∷ []) 15)
    × (state_after 16 records23 zero_parameters ≡ state (drop 4 records23) (bounds 0 0) (loop_frame loop23-3 (drop 4 records23) 0 [] (bounds 0 0) ∷ choice_frame none (bounds 0 0) ∷ loop_frame loop23-1 (drop 2 records23) 2 (bounds 3 4 ∷ []) (bounds 2 2) ∷ loop_frame loop23-0 (drop 1 records23) 1 (bounds 7 13 ∷ []) (bounds 0 0) ∷ []) 16)
    × (state_after 17 records23 zero_parameters ≡ state (drop 8 records23) (bounds 0 0) (loop_frame loop23-7 (drop 8 records23) 0 [] (bounds 0 0) ∷ choice_frame (some (bounds 3 3)) (bounds 0 0) ∷ loop_frame loop23-1 (drop 2 records23) 2 (bounds 3 4 ∷ []) (bounds 2 2) ∷ loop_frame loop23-0 (drop 1 records23) 1 (bounds 7 13 ∷ []) (bounds 0 0) ∷ []) 17)
    × (state_after 18 records23 zero_parameters ≡ state (drop 2 records23) (bounds 0 0) (loop_frame loop23-1 (drop 2 records23) 3 (bounds 5 7 ∷ []) (bounds 2 2) ∷ loop_frame loop23-0 (drop 1 records23) 1 (bounds 7 13 ∷ []) (bounds 0 0) ∷ []) 18)
    × (state_after 19 records23 zero_parameters ≡ state (drop 4 records23) (bounds 0 0) (loop_frame loop23-3 (drop 4 records23) 0 [] (bounds 0 0) ∷ choice_frame none (bounds 0 0) ∷ loop_frame loop23-1 (drop 2 records23) 3 (bounds 5 7 ∷ []) (bounds 2 2) ∷ loop_frame loop23-0 (drop 1 records23) 1 (bounds 7 13 ∷ []) (bounds 0 0) ∷ []) 19)
    × (state_after 20 records23 zero_parameters ≡ state (drop 8 records23) (bounds 0 0) (loop_frame loop23-7 (drop 8 records23) 0 [] (bounds 0 0) ∷ choice_frame (some (bounds 4 4)) (bounds 0 0) ∷ loop_frame loop23-1 (drop 2 records23) 3 (bounds 5 7 ∷ []) (bounds 2 2) ∷ loop_frame loop23-0 (drop 1 records23) 1 (bounds 7 13 ∷ []) (bounds 0 0) ∷ []) 20)
    × (state_after 21 records23 zero_parameters ≡ state (drop 1 records23) (bounds 0 0) (loop_frame loop23-0 (drop 1 records23) 2 (bounds 17 27 ∷ []) (bounds 0 0) ∷ []) 21)
    × (state_after 22 records23 zero_parameters ≡ state (drop 2 records23) (bounds 0 0) (loop_frame loop23-1 (drop 2 records23) 0 [] (bounds 2 2) ∷ loop_frame loop23-0 (drop 1 records23) 2 (bounds 17 27 ∷ []) (bounds 0 0) ∷ []) 22)
    × (state_after 23 records23 zero_parameters ≡ state (drop 4 records23) (bounds 0 0) (loop_frame loop23-3 (drop 4 records23) 0 [] (bounds 0 0) ∷ choice_frame none (bounds 0 0) ∷ loop_frame loop23-1 (drop 2 records23) 0 [] (bounds 2 2) ∷ loop_frame loop23-0 (drop 1 records23) 2 (bounds 17 27 ∷ []) (bounds 0 0) ∷ []) 23)
    × (state_after 24 records23 zero_parameters ≡ state_keeping (kept_arms [] (bounds 1 1 ∷ [])) (drop 8 records23) (bounds 0 0) (loop_frame loop23-7 (drop 8 records23) 0 [] (bounds 0 0) ∷ choice_frame (some (bounds 1 1)) (bounds 0 0) ∷ loop_frame loop23-1 (drop 2 records23) 0 [] (bounds 2 2) ∷ loop_frame loop23-0 (drop 1 records23) 2 (bounds 17 27 ∷ []) (bounds 0 0) ∷ []) 24)
    × (state_after 25 records23 zero_parameters ≡ state_keeping (kept_arms ((bounds 1 1 ∷ bounds 3 3 ∷ []) ∷ []) []) (drop 2 records23) (bounds 0 0) (loop_frame loop23-1 (drop 2 records23) 1 (bounds 1 3 ∷ []) (bounds 2 2) ∷ loop_frame loop23-0 (drop 1 records23) 2 (bounds 17 27 ∷ []) (bounds 0 0) ∷ []) 25)
    × (state_after 26 records23 zero_parameters ≡ state_keeping (kept_arms ((bounds 1 1 ∷ bounds 3 3 ∷ []) ∷ []) []) (drop 4 records23) (bounds 0 0) (loop_frame loop23-3 (drop 4 records23) 0 [] (bounds 0 0) ∷ choice_frame none (bounds 0 0) ∷ loop_frame loop23-1 (drop 2 records23) 1 (bounds 1 3 ∷ []) (bounds 2 2) ∷ loop_frame loop23-0 (drop 1 records23) 2 (bounds 17 27 ∷ []) (bounds 0 0) ∷ []) 26)
    × (state_after 27 records23 zero_parameters ≡ state_keeping (kept_arms ((bounds 1 1 ∷ bounds 3 3 ∷ []) ∷ []) (bounds 2 2 ∷ [])) (drop 8 records23) (bounds 0 0) (loop_frame loop23-7 (drop 8 records23) 0 [] (bounds 0 0) ∷ choice_frame (some (bounds 2 2)) (bounds 0 0) ∷ loop_frame loop23-1 (drop 2 records23) 1 (bounds 1 3 ∷ []) (bounds 2 2) ∷ loop_frame loop23-0 (drop 1 records23) 2 (bounds 17 27 ∷ []) (bounds 0 0) ∷ []) 27)
    × (state_after 28 records23 zero_parameters ≡ state (drop 2 records23) (bounds 0 0) (loop_frame loop23-1 (drop 2 records23) 2 (bounds 3 6 ∷ []) (bounds 2 2) ∷ loop_frame loop23-0 (drop 1 records23) 2 (bounds 17 27 ∷ []) (bounds 0 0) ∷ []) 28)
    × (state_after 29 records23 zero_parameters ≡ state (drop 4 records23) (bounds 0 0) (loop_frame loop23-3 (drop 4 records23) 0 [] (bounds 0 0) ∷ choice_frame none (bounds 0 0) ∷ loop_frame loop23-1 (drop 2 records23) 2 (bounds 3 6 ∷ []) (bounds 2 2) ∷ loop_frame loop23-0 (drop 1 records23) 2 (bounds 17 27 ∷ []) (bounds 0 0) ∷ []) 29)
    × (state_after 30 records23 zero_parameters ≡ state (drop 8 records23) (bounds 0 0) (loop_frame loop23-7 (drop 8 records23) 0 [] (bounds 0 0) ∷ choice_frame (some (bounds 3 3)) (bounds 0 0) ∷ loop_frame loop23-1 (drop 2 records23) 2 (bounds 3 6 ∷ []) (bounds 2 2) ∷ loop_frame loop23-0 (drop 1 records23) 2 (bounds 17 27 ∷ []) (bounds 0 0) ∷ []) 30)
    × (state_after 31 records23 zero_parameters ≡ state (drop 2 records23) (bounds 0 0) (loop_frame loop23-1 (drop 2 records23) 3 (bounds 6 9 ∷ []) (bounds 2 2) ∷ loop_frame loop23-0 (drop 1 records23) 2 (bounds 17 27 ∷ []) (bounds 0 0) ∷ []) 31)
    × (state_after 32 records23 zero_parameters ≡ state (drop 4 records23) (bounds 0 0) (loop_frame loop23-3 (drop 4 records23) 0 [] (bounds 0 0) ∷ choice_frame none (bounds 0 0) ∷ loop_frame loop23-1 (drop 2 records23) 3 (bounds 6 9 ∷ []) (bounds 2 2) ∷ loop_frame loop23-0 (drop 1 records23) 2 (bounds 17 27 ∷ []) (bounds 0 0) ∷ []) 32)
    × (state_after 33 records23 zero_parameters ≡ state (drop 8 records23) (bounds 0 0) (loop_frame loop23-7 (drop 8 records23) 0 [] (bounds 0 0) ∷ choice_frame (some (bounds 4 4)) (bounds 0 0) ∷ loop_frame loop23-1 (drop 2 records23) 3 (bounds 6 9 ∷ []) (bounds 2 2) ∷ loop_frame loop23-0 (drop 1 records23) 2 (bounds 17 27 ∷ []) (bounds 0 0) ∷ []) 33)
    × (state_after 34 records23 zero_parameters ≡ state (drop 13 records23) (bounds 29 43) [] 33)
    × (state_after 35 records23 zero_parameters ≡ state (drop 13 records23) (bounds 29 43) [] 33)
unfolding computes
states-23 = (refl, refl, refl, refl, refl, refl, refl, refl, refl, refl, refl, refl, refl, refl, refl, refl, refl, refl, refl, refl, refl, refl, refl, refl, refl, refl, refl, refl, refl, refl, refl, refl, refl, refl, refl, refl)

-- 24. ranked, fewer trips than height + 1, in an arm of the sheet
abbrev loop24-1 : Loop
loop24-1 = loop_of 0 0 (pos 1) (form (pos 0) (pos 0 ∷ pos 0 ∷ pos 0 ∷ []) (pos 0 ∷ pos 0 ∷ pos 0 ∷ pos 0 ∷ [])) (form (pos 1) (pos 0 ∷ pos 0 ∷ pos 0 ∷ []) (pos 0 ∷ pos 0 ∷ pos 0 ∷ pos 0 ∷ []))

abbrev loop24-3 : Loop
loop24-3 = loop_of 0 0 (pos 1) (form (pos 0) (pos 0 ∷ pos 0 ∷ pos 0 ∷ []) (pos 0 ∷ pos 0 ∷ pos 0 ∷ pos 0 ∷ [])) (form (pos 0) (pos 1 ∷ pos 0 ∷ pos 0 ∷ []) (pos 0 ∷ pos 0 ∷ pos 0 ∷ pos 0 ∷ []))

abbrev loop24-4 : Loop
loop24-4 = loop_of 0 0 (pos 1) (form (pos 0) (pos 0 ∷ pos 0 ∷ pos 0 ∷ []) (pos 0 ∷ pos 0 ∷ pos 0 ∷ pos 0 ∷ [])) (form (pos 0) (pos 0 ∷ pos 1 ∷ pos 0 ∷ []) (pos 0 ∷ pos 0 ∷ pos 0 ∷ pos 0 ∷ []))

abbrev records24 : List Record
records24 = choice_record ∷ loop_record loop24-1 ∷ choice_record ∷ loop_record loop24-3 ∷ loop_record loop24-4 ∷ work_record 1 1 ∷ end_record ∷ end_record ∷ next_arm_record ∷ work_record 2 2 ∷ end_record ∷ end_record ∷ next_arm_record ∷ work_record 3 3 ∷ end_record ∷ []

pub states-24 :
    (state_after 0 records24 zero_parameters ≡ state (drop 0 records24) (bounds 0 0) [] 0)
    × (state_after 1 records24 zero_parameters ≡ state (drop 2 records24) (bounds 0 0) (loop_frame loop24-1 (drop 2 records24) 0 [] (bounds 0 0) ∷ choice_frame none (bounds 0 0) ∷ []) 1)
    × (state_after 2 records24 zero_parameters ≡ state (drop 4 records24) (bounds 0 0) (loop_frame loop24-3 (drop 4 records24) 0 [] (bounds 0 0) ∷ choice_frame none (bounds 0 0) ∷ loop_frame loop24-1 (drop 2 records24) 0 [] (bounds 0 0) ∷ choice_frame none (bounds 0 0) ∷ []) 2)
    × (state_after 3 records24 zero_parameters ≡ state (drop 5 records24) (bounds 0 0) (loop_frame loop24-4 (drop 5 records24) 0 [] (bounds 0 0) ∷ loop_frame loop24-3 (drop 4 records24) 0 [] (bounds 0 0) ∷ choice_frame none (bounds 0 0) ∷ loop_frame loop24-1 (drop 2 records24) 0 [] (bounds 0 0) ∷ choice_frame none (bounds 0 0) ∷ []) 3)
    × (state_after 4 records24 zero_parameters ≡ state_keeping (kept_arms ((bounds 1 1 ∷ bounds 2 2 ∷ []) ∷ []) []) (drop 2 records24) (bounds 0 0) (loop_frame loop24-1 (drop 2 records24) 1 (bounds 1 2 ∷ []) (bounds 0 0) ∷ choice_frame none (bounds 0 0) ∷ []) 4)
    × (state_after 5 records24 zero_parameters ≡ state_keeping (kept_arms ((bounds 1 1 ∷ bounds 2 2 ∷ []) ∷ []) []) (drop 4 records24) (bounds 0 0) (loop_frame loop24-3 (drop 4 records24) 0 [] (bounds 0 0) ∷ choice_frame none (bounds 0 0) ∷ loop_frame loop24-1 (drop 2 records24) 1 (bounds 1 2 ∷ []) (bounds 0 0) ∷ choice_frame none (bounds 0 0) ∷ []) 5)
    × (state_after 6 records24 zero_parameters ≡ state_keeping (kept_arms ((bounds 1 1 ∷ bounds 2 2 ∷ []) ∷ []) []) (drop 5 records24) (bounds 0 0) (loop_frame loop24-4 (drop 5 records24) 0 [] (bounds 0 0) ∷ loop_frame loop24-3 (drop 4 records24) 0 [] (bounds 0 0) ∷ choice_frame none (bounds 0 0) ∷ loop_frame loop24-1 (drop 2 records24) 1 (bounds 1 2 ∷ []) (bounds 0 0) ∷ choice_frame none (bounds 0 0) ∷ []) 6)
    × (state_after 7 records24 zero_parameters ≡ state_keeping (kept_arms ((bounds 1 1 ∷ bounds 2 2 ∷ []) ∷ []) []) (drop 4 records24) (bounds 0 0) (loop_frame loop24-3 (drop 4 records24) 1 (bounds 1 1 ∷ []) (bounds 0 0) ∷ choice_frame none (bounds 0 0) ∷ loop_frame loop24-1 (drop 2 records24) 1 (bounds 1 2 ∷ []) (bounds 0 0) ∷ choice_frame none (bounds 0 0) ∷ []) 7)
    × (state_after 8 records24 zero_parameters ≡ state_keeping (kept_arms ((bounds 1 1 ∷ bounds 2 2 ∷ []) ∷ []) []) (drop 5 records24) (bounds 0 0) (loop_frame loop24-4 (drop 5 records24) 0 [] (bounds 0 0) ∷ loop_frame loop24-3 (drop 4 records24) 1 (bounds 1 1 ∷ []) (bounds 0 0) ∷ choice_frame none (bounds 0 0) ∷ loop_frame loop24-1 (drop 2 records24) 1 (bounds 1 2 ∷ []) (bounds 0 0) ∷ choice_frame none (bounds 0 0) ∷ []) 8)
    × (state_after 9 records24 zero_parameters ≡ state (drop 15 records24) (bounds 3 5) [] 8)
    × (state_after 10 records24 zero_parameters ≡ state (drop 15 records24) (bounds 3 5) [] 8)
unfolding computes
states-24 = (refl, refl, refl, refl, refl, refl, refl, refl, refl, refl, refl)

-- 25. parameters, a negative factor, strides
abbrev loop25-0 : Loop
loop25-0 = loop_of 0 0 (pos 3) (form (pos 0) (pos 0 ∷ pos 0 ∷ pos 0 ∷ []) (pos 1 ∷ pos 0 ∷ pos 0 ∷ pos 0 ∷ [])) (form (pos 0) (pos 0 ∷ pos 0 ∷ pos 0 ∷ []) (pos 1 ∷ pos 0 ∷ pos 2 ∷ pos 0 ∷ []))

abbrev loop25-2 : Loop
loop25-2 = loop_of 2 0 (pos 2) (form (pos 1) (negsuc 0 ∷ pos 0 ∷ pos 0 ∷ []) (pos 0 ∷ pos 0 ∷ pos 0 ∷ pos 0 ∷ [])) (form (pos 20) (negsuc 0 ∷ pos 0 ∷ pos 0 ∷ []) (pos 0 ∷ negsuc 0 ∷ pos 0 ∷ pos 0 ∷ []))

abbrev records25 : List Record
records25 = loop_record loop25-0 ∷ work_record 1 2 ∷ loop_record loop25-2 ∷ work_record 5 6 ∷ end_record ∷ end_record ∷ []

pub states-25 :
    (state_after 0 records25 (negsuc 3 ∷ pos 7 ∷ pos 3 ∷ pos 0 ∷ []) ≡ state (drop 0 records25) (bounds 0 0) [] 0)
    × (state_after 1 records25 (negsuc 3 ∷ pos 7 ∷ pos 3 ∷ pos 0 ∷ []) ≡ state (drop 1 records25) (bounds 0 0) (loop_frame loop25-0 (drop 1 records25) 0 [] (bounds 0 0) ∷ []) 1)
    × (state_after 2 records25 (negsuc 3 ∷ pos 7 ∷ pos 3 ∷ pos 0 ∷ []) ≡ state (drop 3 records25) (bounds 0 0) (loop_frame loop25-2 (drop 3 records25) 0 [] (bounds 3 4) ∷ loop_frame loop25-0 (drop 1 records25) 0 [] (bounds 0 0) ∷ []) 2)
    × (state_after 3 records25 (negsuc 3 ∷ pos 7 ∷ pos 3 ∷ pos 0 ∷ []) ≡ state (drop 1 records25) (bounds 0 0) (loop_frame loop25-0 (drop 1 records25) 1 (bounds 38 46 ∷ []) (bounds 0 0) ∷ []) 3)
    × (state_after 4 records25 (negsuc 3 ∷ pos 7 ∷ pos 3 ∷ pos 0 ∷ []) ≡ state (drop 3 records25) (bounds 0 0) (loop_frame loop25-2 (drop 3 records25) 0 [] (bounds 3 4) ∷ loop_frame loop25-0 (drop 1 records25) 1 (bounds 38 46 ∷ []) (bounds 0 0) ∷ []) 4)
    × (state_after 5 records25 (negsuc 3 ∷ pos 7 ∷ pos 3 ∷ pos 0 ∷ []) ≡ state (drop 6 records25) (bounds 114 138) [] 4)
    × (state_after 6 records25 (negsuc 3 ∷ pos 7 ∷ pos 3 ∷ pos 0 ∷ []) ≡ state (drop 6 records25) (bounds 114 138) [] 4)
unfolding computes
states-25 = (refl, refl, refl, refl, refl, refl, refl)
