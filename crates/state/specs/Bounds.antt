-- A least and a most, modulo 2^64.
use Rattle.std.specs.Prelude.{ℕ, ◌+◌, ◌%◌, ◌^◌, min, max}
use Rattle.state.specs.declared.bounds.Bounds.{Bounds}

abbrev pub bounds : ℕ → ℕ → Bounds
bounds least most = record { least = least; most = most }

abbrev pub no_bounds : Bounds
no_bounds = bounds 0 0

-- the sum modulo 2^64
unfoldable pub wrapped_sum : ℕ → ℕ → ℕ
wrapped_sum a b = (a + b) % 2 ^ 64

-- both added
abbrev pub plus : Bounds → Bounds → Bounds
plus b c = bounds (wrapped_sum b.least c.least) (wrapped_sum b.most c.most)

-- the smaller least and the larger most
abbrev pub joined : Bounds → Bounds → Bounds
joined b c = bounds (min b.least c.least) (max b.most c.most)
