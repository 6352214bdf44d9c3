-- The limits of what is written and read, which are this project's own. All formats share them.
-- Pinned by: keys_and_values_at_their_limits, a_list_as_heavy_as_it_may_be
use Rattle.std.specs.Prelude.{ℕ, ◌^◌}

-- the most bytes of a user key
-- Own.
abbrev pub key_limit : ℕ
key_limit = 65536

-- the most bytes of a key that a block stores: those of a user key and of a tag
-- Own.
-- Pinned by: long_keys
abbrev pub stored_key_limit : ℕ
stored_key_limit = 65544

-- the most bytes of a value
-- Own.
abbrev pub value_limit : ℕ
value_limit = 16777216

-- the most that a list weighs
-- Own.
abbrev pub weight_limit : ℕ
weight_limit = 2 ^ 28

-- the most bytes of a block
-- Own.
-- Pinned by: a_block_has_one_list_of_rows.short, blocks_that_are_read
abbrev pub block_limit : ℕ
block_limit = 2 ^ 29
