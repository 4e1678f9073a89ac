-- Calls, counts and files, by computing.
use Rattle.std.proofs.Common.{◌≡◌, ◌≢◌, ◌∙◌, refl, ap, sym, subst, ℕ, List, [], ◌∷◌, ◌++◌, Bool, true, false, Option, Some, None, length, inl, inr, if◌then◌else◌, lit<, lit≤, codes, arith}
use Rattle.std.specs.Str.{bytes_eq}
use Rattle.std.proofs.lemmas.Slice.Eq.{bytes_eq-Decides}
use Rattle.nv_outside.specs.Calls.{Call, Load, Save, IsPart, AsksAtMost}
use Rattle.nv_outside.specs.Holding.{AppendsFront, IsLonger}
use Rattle.laws_commands.specs.Stores.{CallsInOrder, OnlyThese, OfCalls, CountsRise, SavesReplace, two_calls, one_file}

abbrev first_of : List ℕ → ℕ
first_of [] = 0
first_of (x ∷ xs) = x

abbrev rest_of : List ℕ → List ℕ
rest_of [] = []
rest_of (x ∷ xs) = xs

abbrev name_of : Call → List ℕ
name_of (Load name) = name
name_of (Save name) = name

load_is_no_save : (a b : List ℕ) → Load a ≡ Save b → ⊥
load_is_no_save a b e = cc

save_is_no_load : (a b : List ℕ) → Save a ≡ Load b → ⊥
save_is_no_load a b e = cc

b_is_not_a : ◌≡◌ {A = ℕ} 98 97 → ⊥
b_is_not_a e = omega (arith, e)

b_is_not_c : ◌≡◌ {A = ℕ} 98 99 → ⊥
b_is_not_c e = omega (arith, e)

other_load : IsPart (Load (codes "b") ∷ []) two_calls → ⊥
other_load (inl (e, t)) = b_is_not_a (ap (λ call. first_of (name_of call)) e)
other_load (inr (inl (e, t))) = load_is_no_save _ _ e
other_load (inr (inr h)) = h

load_twice : IsPart (Load (codes "a") ∷ Load (codes "a") ∷ []) two_calls → ⊥
load_twice (inl (e, inl (f, t))) = load_is_no_save _ _ f
load_twice (inl (e, inr h)) = h
load_twice (inr (inl (e, t))) = load_is_no_save _ _ e
load_twice (inr (inr h)) = h

save_first : IsPart (Save (codes "o") ∷ Load (codes "a") ∷ []) two_calls → ⊥
save_first (inl (e, h)) = save_is_no_load _ _ e
save_first (inr (inl (e, h))) = h
save_first (inr (inr h)) = h

pub calls_in_order : CallsInOrder
calls_in_order = record { none = tt; first = inl (refl, tt); second = inr (inl (refl, tt)); twice = load_twice; swapped = save_first; other = other_load }

no_other : AsksAtMost OfCalls [] (Load (codes "b") ∷ []) two_calls → ⊥
no_other (made, part, asked) = other_load (subst (λ calls. IsPart calls two_calls) (sym (asked [] refl)) part)

pub only_these : OnlyThese
only_these = record {
  loaded = (Load (codes "a") ∷ [], inl (refl, tt), λ before e. ap (λ calls. calls ++ Load (codes "a") ∷ []) e);
  other = no_other;
}

pub counts_rise : CountsRise
counts_rise = record { more = lit≤ tt; same = λ h. omega (arith, h); last = lit≤ tt }

-- ---- files

is_false : (b : Bool) → (b ≡ true → ⊥) → b ≡ false
is_false true h = absurd (h refl)
is_false false h = refl

found : (name bytes : List ℕ) → one_file name bytes name ≡ Some bytes
found name bytes = ap (λ b. if b then Some bytes else None) ((bytes_eq-Decides name name).1 refl)

missing : (name bytes other : List ℕ) → other ≢ name → one_file name bytes other ≡ None
missing name bytes other apart = ap (λ b. if b then Some bytes else None) (is_false (bytes_eq other name) (λ e. apart ((bytes_eq-Decides other name).0 e)))

abbrev length_of : Option (List ℕ) → ℕ
length_of None = 0
length_of (Some bytes) = length bytes

not_longer : (name : List ℕ) → IsLonger (one_file name (1 ∷ 2 ∷ [])) name 2 → ⊥
not_longer name (bytes, e, long) =
    let two : length bytes ≡ 2 = ap length_of (sym e ∙ found name (1 ∷ 2 ∷ [])) in
    omega (arith, two, long)

not_in_front : AppendsFront (codes "a") (codes "ac") (codes "bc") → ⊥
not_in_front (front, rest, e, f) = b_is_not_c (ap first_of (e ∙ ap (λ part. part ++ rest) (sym (ap rest_of f))))

pub saves_replace : SavesReplace
saves_replace = record {
  first = λ name bytes. record { here = found name bytes; elsewhere = λ other apart. missing name bytes other apart };
  second = λ name old new. record { here = found name new; elsewhere = λ other apart. missing name new other apart ∙ sym (missing name old other apart) };
  long = λ name. (1 ∷ 2 ∷ [], found name (1 ∷ 2 ∷ []), lit< tt);
  short = not_longer;
  front = (codes "b", codes "c", refl, refl);
  not_front = not_in_front;
}
