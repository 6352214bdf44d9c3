-- Counts of faults: an object outside counts its failures, and no call fails without one.
use Rattle.std.specs.Prelude.{ℕ, ◌+◌, ◌-◌, ◌^◌, ◌≤◌, min}

-- the count rose, or stands at the last value of a u64
-- Pinned by: disk_counts_no_fault (too loose), read_at.failed (too strict)
abbrev pub Rose : ℕ → ℕ → Type 0
Rose before now = min (before + 1) (2 ^ 64 - 1) ≤ now

-- the count after n more, at most the last value of a u64
-- Pinned by: a_range, read_at.never_falls (at its end)
abbrev pub counted : ℕ → ℕ → ℕ
counted before n = min (before + n) (2 ^ 64 - 1)
