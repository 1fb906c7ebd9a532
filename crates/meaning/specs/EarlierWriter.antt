-- The writer before document 02's C-19, and what is promised of the records that it took: nothing changes for them.
use Rattle.std.specs.Prelude.{◌≡◌, List, ℕ, ◌≤◌, ◌<◌}
use Rattle.meaning.specs.Reader.{refused}
use Rattle.meaning.specs.Writer.{RawRecord, Written, store, write_up_to, write}
use Rattle.meaning.specs.EarlierReaders.{earlier_record_limit}

-- it took 64 records
abbrev pub short_write : List RawRecord → ℕ → List ℕ → Written
short_write = write_up_to earlier_record_limit

-- up to so many are written alike, refusals and places too; a larger count was refused 4
pub record WrittenAsBefore (entries : List RawRecord) (count : ℕ) (buffer : List ℕ) : Type 0 where
  pub alike : count ≤ earlier_record_limit → short_write entries count buffer ≡ write entries count buffer
  pub more : earlier_record_limit < count → short_write entries count buffer ≡ store buffer (refused 4 0)
