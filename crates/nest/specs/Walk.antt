-- What a walk over a sheet's records carries from one record to the next: what is open, and the numbers of the open records.
use Rattle.std.specs.Prelude.{List, [], ◌∷◌, ℕ, zero, suc}
use Rattle.meaning.specs.Record.{Record, work_record, loop_record, Open, open_loop, open_choice, end_record, choice_record, next_arm_record}

-- what is open after a record, innermost first; unlike the reader, this tests nothing
unfoldable pub opens_after : List Open → Record → List Open
opens_after os (work_record least most) = os
opens_after os (loop_record l) = open_loop ∷ os
opens_after [] end_record = []
opens_after (o ∷ os) end_record = os
opens_after os choice_record = open_choice ∷ os
opens_after os next_arm_record = os

-- the numbers of the open records, innermost first, after the record with the number n; records are numbered from 0
unfoldable pub numbers_after : ℕ → List ℕ → Record → List ℕ
numbers_after n ns (work_record least most) = ns
numbers_after n ns (loop_record l) = n ∷ ns
numbers_after n [] end_record = []
numbers_after n (m ∷ ns) end_record = ns
numbers_after n ns choice_record = n ∷ ns
numbers_after n ns next_arm_record = ns

-- how many loops there are up to a record, after so many before it
unfoldable pub loops_after : ℕ → Record → ℕ
loops_after n (work_record least most) = n
loops_after n (loop_record l) = suc n
loops_after n end_record = n
loops_after n choice_record = n
loops_after n next_arm_record = n

-- how many of the records stand before the end of what is open, `inside` further things being open in it
unfoldable pub records_inside : ℕ → List Record → ℕ
records_inside inside [] = zero
records_inside inside (work_record least most ∷ rs) = suc (records_inside inside rs)
records_inside inside (loop_record l ∷ rs) = suc (records_inside (suc inside) rs)
records_inside zero (end_record ∷ rs) = zero
records_inside (suc inside) (end_record ∷ rs) = suc (records_inside inside rs)
records_inside inside (choice_record ∷ rs) = suc (records_inside (suc inside) rs)
records_inside inside (next_arm_record ∷ rs) = suc (records_inside inside rs)
