-- A filter by its four facts, and as it is spelled.
use Rattle.std.proofs.Common.{◌≡◌, ℕ, zero, suc, ◌+◌, ◌*◌, ◌/◌, ◌%◌, ◌<◌, ◌^◌, ◌==◌, Bool, List, [], ◌∷◌, ◌++◌, length, length-append, length-take-le, map, take, drop, sym, ap, ap₂, ◌∙◌, subst, arith}
use Rattle.std.specs.List.{range_with_len}
use Rattle.std.proofs.Math.Seq.{drop-append_seam}
use Rattle.std.proofs.lemmas.List.{get_or-take, get_or_append_left, length-map, take-append-drop}
use Rattle.std.proofs.lemmas.List.FromFn.{length-map-range_with_len}
use Rattle.sst_num.specs.Spelling.{fixed}
use Rattle.sst_bloom.specs.Lines.{AreBytes, is_set, key_hash, some_takes}
use Rattle.sst_bloom.specs.Filter.{IsFilter, bloom_filter, byte_of, filter_of_hashes, lines_of, probes_of}
use Rattle.sst_bloom.proofs.Only.{bytes_are, number_fits}
use Rattle.sst_bloom.proofs.Own.{written_bit}

-- ---- bytes

front_bytes : (n : ℕ) (filter : List ℕ) → AreBytes filter → AreBytes (take n filter)
front_bytes zero filter fits k = omega arith
front_bytes (suc n) [] fits k = omega arith
front_bytes (suc n) (byte ∷ filter) fits zero = fits 0
front_bytes (suc n) (byte ∷ filter) fits (suc k) = front_bytes n filter (λ i. fits (suc i)) k

joined_bytes : (a b : List ℕ) → AreBytes a → AreBytes b → AreBytes (a ++ b)
joined_bytes [] b first second k = second k
joined_bytes (byte ∷ a) b first second zero = first 0
joined_bytes (byte ∷ a) b first second (suc k) = joined_bytes a b (λ i. first (suc i)) second k

fixed_bytes : (n v : ℕ) → AreBytes (fixed n v)
fixed_bytes zero v k = omega arith
fixed_bytes (suc n) v zero = omega arith
fixed_bytes (suc n) v (suc k) = fixed_bytes n (v / 256) k

one_byte : (byte : ℕ) (bytes : List ℕ) → byte < 256 → AreBytes bytes → AreBytes (byte ∷ bytes)
one_byte byte bytes small rest zero = small
one_byte byte bytes small rest (suc k) = rest k

byte_fits : (says : ℕ → Bool) (k : ℕ) → byte_of says k < 256
unfolding byte_of
byte_fits says k = number_fits says (8 * k) 8

mapped_bytes : (says : ℕ → Bool) (ks : List ℕ) → AreBytes (map (byte_of says) ks)
mapped_bytes says [] k = omega arith
mapped_bytes says (at ∷ ks) zero = byte_fits says at
mapped_bytes says (at ∷ ks) (suc k) = mapped_bytes says ks k

-- ---- bits

front_bit : (n : ℕ) (filter : List ℕ) (p : ℕ) → p < 8 * n → is_set (take n filter) p ≡ is_set filter p
front_bit n filter p within =
    let inside : p / 8 < n = omega arith in
    ap (λ x. x / 2 ^ (p % 8) % 2 == 1) (get_or-take n filter (p / 8) 0 inside)

joined_bit : (a b : List ℕ) (p : ℕ) → p < 8 * length a → is_set (a ++ b) p ≡ is_set a p
joined_bit a b p within =
    let inside : p / 8 < length a = omega arith in
    ap (λ x. x / 2 ^ (p % 8) % 2 == 1) (get_or_append_left a b 0 (p / 8) inside)

-- ---- the four facts

told : (says : ℕ → Bool) (n : ℕ) (filter end : List ℕ) → length filter ≡ n + 5 → AreBytes filter →
    ((p : ℕ) → p < 8 * n → is_set filter p ≡ says p) → drop n filter ≡ end → filter ≡ map (byte_of says) (range_with_len 0 n) ++ end
told says n filter end long fits same behind =
    let front : length (take n filter) ≡ n = length-take-le n filter (omega (arith, long)) in
    sym (take-append-drop n filter)
    ∙ ap₂ (λ (a b : List ℕ). a ++ b) (bytes_are says n (take n filter) front (front_bytes n filter fits) (λ p within. front_bit n filter p within ∙ same p within)) behind

unfoldable written : ℕ → ℕ → List ℕ → List ℕ
written lines probes hashes = map (byte_of (some_takes lines 64 hashes probes)) (range_with_len 0 (64 * lines)) ++ probes ∷ fixed 4 lines

written_so : (bits : ℕ) (users : List (List ℕ)) → written (lines_of (length users) bits) (probes_of bits) (map key_hash users) ≡ bloom_filter bits users
unfolding bloom_filter filter_of_hashes written
written_so bits users = ap (λ k. written (lines_of k bits) (probes_of bits) (map key_hash users)) (sym (length-map users key_hash))

pub filter_is_written : (bits : ℕ) (users : List (List ℕ)) (filter : List ℕ) → IsFilter bits users filter → filter ≡ bloom_filter bits users
unfolding written
filter_is_written bits users filter is =
    let lines = lines_of (length users) bits in
    let probes = probes_of bits in
    told (some_takes lines 64 (map key_hash users) probes) (64 * lines) filter (probes ∷ fixed 4 lines) is.long is.bytes
    (λ p within. is.set_where_taken p (omega arith)) is.end
    ∙ written_so bits users

written_facts : (bits : ℕ) (users : List (List ℕ)) → IsFilter bits users (written (lines_of (length users) bits) (probes_of bits) (map key_hash users))
unfolding written
written_facts bits users =
    let lines = lines_of (length users) bits in
    let probes = probes_of bits in
    let says = some_takes lines 64 (map key_hash users) probes in
    let body = map (byte_of says) (range_with_len 0 (64 * lines)) in
    let end = probes ∷ fixed 4 lines in
    let front : length body ≡ 64 * lines = length-map-range_with_len (byte_of says) 0 (64 * lines) in
    record {
      long = length-append body end ∙ omega (arith, front);
      bytes = joined_bytes body end (mapped_bytes says (range_with_len 0 (64 * lines))) (one_byte probes (fixed 4 lines) (omega arith) (fixed_bytes 4 lines));
      set_where_taken = λ p within. joined_bit body end p (omega (arith, front)) ∙ written_bit says (64 * lines) p (omega arith);
      end = ap (λ n. drop n (body ++ end)) (sym front) ∙ drop-append_seam body end;
    }

pub written_is_filter : (bits : ℕ) (users : List (List ℕ)) → IsFilter bits users (bloom_filter bits users)
written_is_filter bits users = subst (IsFilter bits users) (written_so bits users) (written_facts bits users)
