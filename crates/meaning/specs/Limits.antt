-- The numbers of documents 01 and 02, each named once.
use Rattle.std.specs.Prelude.{ℕ, ◌+◌, ◌*◌, ◌^◌}

-- "The sheet": loops 4 deep, 8 records open together; document 02, C-19: 128 records
abbrev pub record_limit : ℕ
record_limit = 128

abbrev pub depth_limit : ℕ
depth_limit = 4

abbrev pub open_limit : ℕ
open_limit = 8

-- a loop with a skip has the longest body; the longest record with its kind, and the longest sheet
abbrev pub body_limit : ℕ
body_limit = 26

abbrev pub record_length_limit : ℕ
record_length_limit = 1 + body_limit

abbrev pub sheet_length_limit : ℕ
sheet_length_limit = record_limit * record_length_limit

-- "The sheet": the largest most of a work, start, step and skip of a loop; a stride's largest size
abbrev pub cost_limit : ℕ
cost_limit = 4095

abbrev pub stride_limit : ℕ
stride_limit = 1000

-- a stride and a form's constant have 16 bits, its factors 8: half of the patterns of each are negative
abbrev pub constant_half : ℕ
constant_half = 32768

abbrev pub factor_half : ℕ
factor_half = 128

-- a form has factors for the indexes of depths 1 to 3 and for parameters 1 to 4
abbrev pub index_factors : ℕ
index_factors = 3

abbrev pub parameter_factors : ℕ
parameter_factors = 4

-- refusal 6: the largest ceiling
abbrev pub ceiling_limit : ℕ
ceiling_limit = 2048

-- refusal 7: the largest visit budget
abbrev pub budget_limit : ℕ
budget_limit = 1000000

-- refusal 9: the bytes that the C call fills
abbrev pub area_length : ℕ
area_length = 24

-- refusal 9 of the calls that store a text or a sheet: the bytes that its length takes in the area
abbrev pub length_size : ℕ
length_size = 8

-- document 02, C-14: refusal 11, the most values of a range; refusal 9, the bytes that the C call over a range fills
abbrev pub value_limit : ℕ
value_limit = 256

abbrev pub range_area_length : ℕ
range_area_length = 40

-- a number that may be negative has 64 bits in an answer area: half of the patterns are negative
abbrev pub answer_half : ℕ
answer_half = 2 ^ 63

-- "Time": every figure is below this
abbrev pub figure_limit : ℕ
figure_limit = 2 ^ 63

-- demand 3: visits for each loop, where every loop is closed
abbrev pub visits_per_loop : ℕ
visits_per_loop = 24

-- `bound`: four parameters and the budget stand before the sheet
abbrev pub header_length : ℕ
header_length = 12

-- these, the longest sheet, and a byte of one record more: so many bytes of the input matter
abbrev pub input_limit : ℕ
input_limit = header_length + sheet_length_limit + 1

-- a place in a sheet is below this, so that it has 16 bits where a reason holds it
abbrev pub offset_limit : ℕ
offset_limit = 2 ^ 16
