-- How many bytes a reason's line takes at most: the words of the longest line, and the longest numbers.
use Rattle.std.specs.Prelude.{ℕ, ◌+◌, ◌*◌}
use Rattle.encoding.specs.Append.{decimal_limit}

-- `loop K is uneven in loop `, up to the offset of loop M
abbrev pub uneven_start_limit : ℕ
uneven_start_limit = 24 + decimal_limit

-- `loop K is uneven in loop M`, with its line feed
abbrev pub reason_line_limit : ℕ
reason_line_limit = 25 + 2 * decimal_limit
