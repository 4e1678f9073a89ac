-- Bits found one by one.
use Rattle.std.proofs.Common.{◌≡◌, ℕ, suc, ◌+◌, ◌<◌, Bool, true, ◌&&◌, ◌||◌, List, map, refl, sym, ap, subst, ◌∙◌, inr, if◌then◌else◌, get_or, set, length, arith}
use Rattle.std.specs.List.{range_with_len}
use Rattle.std.proofs.lemmas.List.{length-set}
use Rattle.std.proofs.lemmas.List.Edits.{fill_by_more}
use Rattle.std.proofs.lemmas.List.FromFn.{fill_by_all}
use Rattle.nv_base.specs.declared.term.Atom.{Atom}
use Rattle.flow_words.specs.declared.bits.Bit.{Bit}
use Rattle.flow_words.specs.declared.bits.Bit.TheVariants.{Unknown}
use Rattle.nv_base.specs.declared.term.Primitive.{Primitive}
use Rattle.nv_base.specs.declared.term.Primitive.TheVariants.{Same}
use Rattle.flow_words.specs.Bits.{is_zero, atom_bit, is_free, above, bits_of, AreBitsOf, IsSettledFrom}
use Rattle.flow_words.specs.Tables.{Table}

pub above_more : (T : Table) (a b : Atom) (i top next : ℕ) (gone : Bool) → top ≡ above T a b i → gone ≡ (is_zero (atom_bit T a i) && is_zero (atom_bit T b i)) → next ≡ (if gone then top else i + 1) → next ≡ above T a b (i + 1)
above_more T a b i top next gone e g n =
    let s : i + 1 ≡ suc i = omega arith in
    n ∙ ap (λ c. if c then top else i + 1) g ∙ ap (λ t. if is_zero (atom_bit T a i) && is_zero (atom_bit T b i) then t else i + 1) e
    ∙ ap (λ k. if is_zero (atom_bit T a i) && is_zero (atom_bit T b i) then above T a b i else k) s ∙ ap (above T a b) (sym s)

pub free_more : (T : Table) (a b : Atom) (i : ℕ) (free apart next : Bool) → free ≡ is_free T a b i → apart ≡ (is_zero (atom_bit T a i) || is_zero (atom_bit T b i)) → next ≡ (free && apart) → next ≡ is_free T a b (i + 1)
free_more T a b i free apart next e g n =
    let s : i + 1 ≡ suc i = omega arith in
    n ∙ ap (λ c. c && apart) e ∙ ap (λ c. is_free T a b i && c) g ∙ ap (is_free T a b) (sym s)

pub all_bits : (f : ℕ → Bit) (bits : List Bit) → length bits ≡ 32 → ((k : ℕ) → k < 32 → get_or bits k Unknown ≡ f k) → bits ≡ map f (range_with_len 0 32)
all_bits f bits e h = fill_by_all f bits 32 Unknown e h

pub fill_next : (f : ℕ → Bit) (bits : List Bit) (i : ℕ) (v : Bit) → length bits ≡ 32 → i < 32 → v ≡ f i → ((k : ℕ) → k < i → get_or bits k Unknown ≡ f k) → (length (set bits i v) ≡ 32) × ((k : ℕ) → k < i + 1 → get_or (set bits i v) k Unknown ≡ f k)
fill_next f bits i v long lt e h =
    (length-set bits i v ∙ long, λ k less. subst (λ b. get_or (set bits i b) k Unknown ≡ f k) (sym e) (fill_by_more f bits i Unknown (subst (λ n. i < n) (sym long) lt) h k less))

-- an operand stands for a primitive whose bits it has
pub from_operand : (T : Table) (q : Primitive) (a : Atom) (bits : List Bit) (found : Bool) → bits ≡ bits_of T q → (found ≡ true → AreBitsOf T bits a) → found ≡ true → IsSettledFrom T q (Same a)
from_operand T q a bits found e h is = inr (a, refl, subst (λ l. AreBitsOf T l a) e (h is))
