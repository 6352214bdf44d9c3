-- The options of a `write block`: the words behind the name of its file, each `name=number`, in any order, none twice. The
-- words and the limits are this project's own; what they choose is RocksDB's (include/rocksdb/table.h).
use Rattle.std.specs.Prelude.{ℕ, ◌&&◌, nat_le, if◌then◌else◌, List, [], ◌∷◌, length, take, drop, codes, Option, Some, None, option_and_then}
use Rattle.std.specs.Option.{option_map}
use Rattle.std.specs.Str.{bytes_eq}
use Rattle.sst_text.specs.Texts.{seq_field}
use Rattle.sst_bbt_write.specs.declared.bbt_options.BbtOptions.{BbtOptions}
use Rattle.sst_cli.specs.declared.options.Said.{Said}

-- what stands behind this front of a word; nothing where the word has another front
-- Pinned by: words_that_are_no_command, good_options
abbrev pub behind : List ℕ → List ℕ → Option (List ℕ)
behind front word = if bytes_eq (take (length front) word) front then Some (drop (length front) word) else None

-- a number, if it is no less than one and no greater than another
-- Pinned by: words_that_are_no_command, good_options
abbrev pub number_within : ℕ → ℕ → ℕ → Option ℕ
number_within least most n = if nat_le least n && nat_le n most then Some n else None

-- the number of an option with this front, within these limits, in decimal digits without sign or leading zeros
-- Pinned by: words_that_are_no_command, good_options
abbrev pub option_number : List ℕ → ℕ → ℕ → List ℕ → Option ℕ
option_number front least most word = option_and_then (λ n. number_within least most n) (option_and_then seq_field (behind front word))

-- the number of the option `version=N`
-- RocksDB: format_version
-- Pinned by: words_that_are_no_command, good_options
unfoldable pub version_number : List ℕ → Option ℕ
version_number word = option_number (codes "version=") 2 4 word

-- the number of the option `block=N`
-- RocksDB: block_size
-- Pinned by: words_that_are_no_command, good_options
unfoldable pub block_number : List ℕ → Option ℕ
block_number word = option_number (codes "block=") 64 16777216 word

-- the number of the option `restart=N`
-- RocksDB: block_restart_interval
-- Pinned by: words_that_are_no_command, good_options
unfoldable pub restart_number : List ℕ → Option ℕ
restart_number word = option_number (codes "restart=") 1 65536 word

-- the number of the option `index-restart=N`
-- RocksDB: index_block_restart_interval
-- Pinned by: words_that_are_no_command, good_options
unfoldable pub index_restart_number : List ℕ → Option ℕ
index_restart_number word = option_number (codes "index-restart=") 1 65536 word

-- the number of the option `parts=N`
-- RocksDB: metadata_block_size, which counts bytes
-- Pinned by: words_that_are_no_command, good_options
unfoldable pub parts_number : List ℕ → Option ℕ
parts_number word = option_number (codes "parts=") 0 65536 word

-- nothing is said yet
-- Pinned by: good_options, forty_entries
abbrev pub none_said : Said
none_said = record { version = None; block_size = None; restart = None; index_restart = None; parts = None }

-- the number is said, if none was said before
-- Own.
-- Pinned by: words_that_are_no_command
abbrev pub once : Option ℕ → ℕ → Option ℕ
once None n = Some n
once (Some m) n = None

-- the word is `parts=N`
-- Pinned by: good_options, words_that_are_no_command
abbrev pub say_parts : Option ℕ → Said → Option Said
say_parts None said = None
say_parts (Some n) said =
    option_map
    (λ m. record { version = said.version; block_size = said.block_size; restart = said.restart; index_restart = said.index_restart; parts = Some m })
    (once said.parts n)

-- the word is `index-restart=N`, or one of the options above
-- Pinned by: good_options, words_that_are_no_command
abbrev pub say_index_restart : Option ℕ → List ℕ → Said → Option Said
say_index_restart None word said = say_parts (parts_number word) said
say_index_restart (Some n) word said =
    option_map
    (λ m. record { version = said.version; block_size = said.block_size; restart = said.restart; index_restart = Some m; parts = said.parts })
    (once said.index_restart n)

-- the word is `restart=N`, or one of the options above
-- Pinned by: good_options, words_that_are_no_command
abbrev pub say_restart : Option ℕ → List ℕ → Said → Option Said
say_restart None word said = say_index_restart (index_restart_number word) word said
say_restart (Some n) word said =
    option_map
    (λ m. record { version = said.version; block_size = said.block_size; restart = Some m; index_restart = said.index_restart; parts = said.parts })
    (once said.restart n)

-- the word is `block=N`, or one of the options above
-- Pinned by: good_options, words_that_are_no_command
abbrev pub say_block : Option ℕ → List ℕ → Said → Option Said
say_block None word said = say_restart (restart_number word) word said
say_block (Some n) word said =
    option_map
    (λ m. record { version = said.version; block_size = Some m; restart = said.restart; index_restart = said.index_restart; parts = said.parts })
    (once said.block_size n)

-- the word is `version=N`, or one of the options above
-- Pinned by: good_options, words_that_are_no_command
abbrev pub say_version : Option ℕ → List ℕ → Said → Option Said
say_version None word said = say_block (block_number word) word said
say_version (Some n) word said =
    option_map
    (λ m. record { version = Some m; block_size = said.block_size; restart = said.restart; index_restart = said.index_restart; parts = said.parts })
    (once said.version n)

-- one word more is said; nothing where it is no option, or one that was said before
-- Pinned by: words_that_are_no_command, good_options
abbrev pub say : List ℕ → Said → Option Said
say word said = say_version (version_number word) word said

-- all words, one after the other
-- Pinned by: words_that_are_no_command, good_options
abbrev pub say_all : List (List ℕ) → Said → Option Said
say_all [] said = Some said
say_all (word ∷ rest) said = option_and_then (λ now. say_all rest now) (say word said)

-- a number, or its default where nothing is said
-- Pinned by: good_options, forty_entries
abbrev pub or_default : Option ℕ → ℕ → ℕ
or_default None n = n
or_default (Some m) n = m

-- the options that are said; what isn't said has its default
-- RocksDB: the defaults of BlockBasedTableOptions
-- Pinned by: words_that_are_no_command, forty_entries
abbrev pub chosen_of : Said → BbtOptions
chosen_of said =
    record {
      version = or_default said.version 2;
      block_size = or_default said.block_size 4096;
      restart = or_default said.restart 16;
      index_restart = or_default said.index_restart 1;
      parts = or_default said.parts 0;
    }

-- the options of some words
-- Pinned by: words_that_are_no_command, good_options
abbrev pub options_of : List (List ℕ) → Option BbtOptions
options_of words = option_map chosen_of (say_all words none_said)
