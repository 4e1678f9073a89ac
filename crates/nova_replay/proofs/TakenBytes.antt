-- A number of bytes from the front of words.
use Rattle.std.proofs.Common.{◌≡◌, ℕ, zero, suc, ◌+◌, ◌*◌, ◌≤◌, ◌<◌, List, [], ◌∷◌, ◌++◌, length, get_or, take, refl, sym, ap, ◌∙◌, append_assoc, arith}
use Rattle.std.proofs.lemmas.List.{take-append-le}
use Rattle.std.specs.Int.{w32, to_be_bytes}
use Rattle.nova_replay.specs.Frames.{bytes_of}

-- the bytes of a word are four
take-four : (w m n : ℕ) (bytes : List ℕ) → m ≡ 4 + n → take m (to_be_bytes w32 w ++ bytes) ≡ to_be_bytes w32 w ++ take n bytes
take-four w m n bytes e =
    let four : 4 + n ≡ suc (suc (suc (suc n))) = omega arith in
    ap (λ k. take k (to_be_bytes w32 w ++ bytes)) (e ∙ four)

take-some : (whole left : ℕ) (words : List ℕ) → left ≤ 4 → whole < length words
    → take (4 * whole + left) (bytes_of words) ≡ bytes_of (take whole words) ++ take left (to_be_bytes w32 (get_or words whole 0))
take-some zero left [] some inside = absurd (omega arith)
take-some (suc whole) left [] some inside = absurd (omega arith)
take-some zero left (w ∷ words) some inside =
    let e : 4 * 0 + left ≡ left = omega arith in
    ap (λ n. take n (bytes_of (w ∷ words))) e ∙ take-append-le left (to_be_bytes w32 w) (bytes_of words) some
take-some (suc whole) left (w ∷ words) some inside =
    take-four w (4 * suc whole + left) (4 * whole + left) (bytes_of words) (omega arith)
    ∙ ap (λ bs. to_be_bytes w32 w ++ bs) (take-some whole left words some (omega arith))
    ∙ sym (append_assoc (to_be_bytes w32 w) (bytes_of (take whole words)) (take left (to_be_bytes w32 (get_or words whole 0))))

take-all : (whole : ℕ) (words : List ℕ) → whole ≤ length words → take (4 * whole) (bytes_of words) ≡ bytes_of (take whole words)
take-all zero words inside = refl
take-all (suc whole) [] inside = absurd (omega arith)
take-all (suc whole) (w ∷ words) inside =
    take-four w (4 * suc whole) (4 * whole) (bytes_of words) (omega arith) ∙ ap (λ bs. to_be_bytes w32 w ++ bs) (take-all whole words (omega arith))

-- the bytes of whole words, and some of the next one
pub take_bytes : (count whole left : ℕ) (words : List ℕ) → count ≡ 4 * whole + left → left ≤ 4 → whole < length words
    → take count (bytes_of words) ≡ bytes_of (take whole words) ++ take left (to_be_bytes w32 (get_or words whole 0))
take_bytes count whole left words is some inside = ap (λ n. take n (bytes_of words)) is ∙ take-some whole left words some inside

-- the bytes of whole words alone
pub take_whole : (count whole : ℕ) (words : List ℕ) → count ≡ 4 * whole → whole ≤ length words → take count (bytes_of words) ≡ bytes_of (take whole words)
take_whole count whole words is inside = ap (λ n. take n (bytes_of words)) is ∙ take-all whole words inside
