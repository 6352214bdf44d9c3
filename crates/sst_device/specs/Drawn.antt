-- How many bytes of a file are drawn for a block.
use Rattle.std.specs.Prelude.{ℕ, ◌+◌, min}
use Rattle.sst_num.specs.declared.block_handle.Handle.{Handle}
use Rattle.sst_key.specs.Limits.{block_limit}

-- at most so many bytes are drawn for the block at a handle: the block, which isn't larger than a block may be, and its
-- trailer
-- RocksDB: table/block_fetcher.cc
-- Pinned by: draw_framed.drew_some (too few), end_drawn_twice (too many)
abbrev pub block_drawn : Handle → ℕ
block_drawn h = min h.size block_limit + 5
