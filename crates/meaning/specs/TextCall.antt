-- The text call: the number returned, and the lent buffer and the answer area as they are left.
use Rattle.std.specs.Prelude.{List, ℕ, leb, length}
use Rattle.meaning.specs.Limits.{length_size}
use Rattle.meaning.specs.Reader.{Result, ok, require}
use Rattle.meaning.specs.Lent.{Lent, store_lent}
use Rattle.meaning.specs.Program.{program_text}

-- refusal 12: the buffer is shorter than the text
unfoldable pub fit_text : List ℕ → List ℕ → Result (List ℕ)
fit_text buffer text = require (leb (length text) (length buffer)) 12 0 (ok text)

-- the text call: what `bound` prints for an input, in the order 9, then 12
unfoldable pub text_call : List ℕ → List ℕ → List ℕ → Lent
text_call input buffer area = store_lent buffer area (require (leb length_size (length area)) 9 0 (fit_text buffer (program_text input)))
