-- The number of restarts is read from the end of a block exactly where a footer stands there.
use Rattle.std.proofs.Common.{◌≡◌, ℕ, ◌+◌, ◌-◌, ◌*◌, ◌≤◌, nat_lt, nat_le, true, List, [], ◌++◌, length, length-append, length-drop, length-take-le, take, drop, Some, inl, inr, sym, ap, ◌∙◌, arith}
use Rattle.std.proofs.lemmas.Bool.{cases_lt, lt-ltb, le-ltb, ltb-true, le-leb, leb-true, and_parts, and_from}
use Rattle.std.proofs.lemmas.List.{take-append-drop, drop_at, drop_all}
use Rattle.std.proofs.lemmas.Option.{none-some}
use Rattle.sst_num.specs.Spelling.{fixed}
use Rattle.sst_num.proofs.FixedAt.{fixed_at-found, fixed_at-joined}
use Rattle.sst_block.specs.FirstFault.{HasFooter}
use Rattle.sst_block.specs.BlockReading.{fits_in, number_where, restart_count}
use Rattle.sst_block.proofs.RestartsRead.{number_where-fixed, number_where-found}

-- the length of what stands before a footer
pub footer-length : (bytes : List ℕ) (count : ℕ) (f : HasFooter bytes count) → length bytes ≡ length f.front + 4
footer-length bytes count f = ap length f.joined ∙ length-append f.front (fixed 4 count)

-- the last four bytes are the count
pub footer-last : (bytes : List ℕ) (count : ℕ) → HasFooter bytes count → drop (length bytes - 4) bytes ≡ fixed 4 count
footer-last bytes count f =
    let whole = footer-length bytes count f in
    let at : length f.front ≡ length bytes - 4 = omega arith in
    ap (drop (length bytes - 4)) f.joined ∙ drop_at f.front (fixed 4 count) (length bytes - 4) at

-- a footer is read
pub footer-read : (bytes : List ℕ) (count : ℕ) → HasFooter bytes count → restart_count bytes ≡ Some count
footer-read bytes count f =
    let whole = footer-length bytes count f in
    let long : 8 ≤ length bytes = omega (arith, whole, f.some, f.room) in
    let good : fits_in (length bytes) count ≡ true =
    and_from _ _ (lt-ltb 0 count f.some) (le-leb (4 * count + 4) (length bytes) (omega (arith, whole, f.room))) in
    rw (le-ltb (length bytes) 8 long) (ap (number_where (fits_in (length bytes))) (footer-last bytes count f)
    ∙ number_where-fixed (fits_in (length bytes)) count [] f.fits good)

-- what was read as a count is that of a footer
pub footer-found : (bytes : List ℕ) (count : ℕ) → restart_count bytes ≡ Some count → HasFooter bytes count
footer-found bytes count is =
    elim (cases_lt (length bytes) 8) [
      | inl short ↦ absurd (none-some count (rw (lt-ltb (length bytes) 8 short) at is))
      | inr long ↦
          let at = length bytes - 4 in
          let end = drop at bytes in
          let found = number_where-found (fits_in (length bytes)) count end (rw (le-ltb (length bytes) 8 long) at is) in
          let tests = and_parts (nat_lt 0 count) (nat_le (4 * count + 4) (length bytes)) found.1 in
          let four : length end ≡ 4 = length-drop at bytes ∙ omega arith in
          let room = leb-true (4 * count + 4) (length bytes) tests.1 in
          let last : end ≡ fixed 4 count =
          fixed_at-joined 4 count end found.0 ∙ ap (λ (xs : List ℕ). fixed 4 count ++ xs) (drop_all 4 end (omega arith)) in
          let size : length (take at bytes) ≡ at = length-take-le at bytes (omega arith) in
          let stands = fixed_at-found 4 count end found.0 in
          record {
            front = take at bytes;
            joined = sym (take-append-drop at bytes) ∙ ap (λ (xs : List ℕ). take at bytes ++ xs) last;
            some = ltb-true 0 count tests.0;
            fits = omega (arith, stands.fits);
            room = omega (arith, size, room);
          }
    ]
