-- The fields of a case's header.
use Rattle.std.specs.Prelude.{◌≡◌, ℕ, List, get_or}
use Rattle.meaning.specs.Number.{unsigned16}
use Rattle.cases.specs.declared.headers.Case.{Case}
use Rattle.cases.specs.Calls.{IsCallOf}

-- the case has the fields that stand in the header
abbrev pub HasFields : List ℕ → Case → Type 0
HasFields header case = record {
  call : IsCallOf (get_or header 0 0) case.call;
  number : case.number ≡ get_or header 1 0;
  sheet : case.sheet ≡ unsigned16 header 2;
  entries : case.entries ≡ unsigned16 header 4;
  value : case.value ≡ unsigned16 header 6;
  count : case.count ≡ unsigned16 header 8;
  buffer : case.buffer ≡ unsigned16 header 10;
}
