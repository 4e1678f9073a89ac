-- Where bytes leave a form that one part begins and the rest follows.
use Rattle.std.proofs.Common.{◌≡◌, ℕ, ◌+◌, ◌-◌, ◌<◌, ◌≤◌, inl, inr, List, [], ◌∷◌, ◌++◌, refl, ap, sym, ◌∙◌, subst, append_assoc, take, drop, length, arith, length-append}
use Rattle.std.proofs.Math.Seq.{take-append-add, take-add}
use Rattle.std.proofs.lemmas.Bool.{cases_lt}
use Rattle.std.proofs.lemmas.List.{take-append-drop}
use Rattle.uc_object.specs.inner.Parts.{Spells, IsFaultOf}
use Rattle.uc_object.proofs.Together.{IsPrefixCode}

-- bytes of the form begin with these
abbrev pub Begins : (List ℕ → Type 0) → List ℕ → Type 0
Begins Form front = (rest : List ℕ) × Form (front ++ rest)

-- the first place such that no bytes of the form begin with those up to it
pub record IsBadIn (Form : List ℕ → Type 0) (bytes : List ℕ) (at : ℕ) : Type 0 where
  pub inside : at ≤ length bytes
  pub before : Begins Form (take at bytes)
  pub here : at < length bytes → ¬ Begins Form (take (at + 1) bytes)
  pub short : at ≡ length bytes → ¬ Form bytes

-- a part, and after it what depends on it
abbrev pub Then : {T : Type 0} → (T → List ℕ → Type 0) → (T → List ℕ → Type 0) → List ℕ → Type 0
Then {T} Is After bytes = (x : T) × (a : List ℕ) × (b : List ℕ) × (bytes ≡ a ++ b) × Is x a × After x b

-- nothing
abbrev pub IsEnd : List ℕ → Type 0
IsEnd bytes = bytes ≡ []

-- where the part has a fault
pub part-bad : {T : Type 0} (Is After : T → List ℕ → Type 0) (bytes : List ℕ) (k : ℕ) → ((x : T) (a : List ℕ) → Is x a → (b : List ℕ) × After x b)
    → IsFaultOf (Spells Is) bytes k → IsBadIn (Then Is After) bytes k
part-bad Is After bytes k goes f =
    let lone = f.before in
    let more = goes lone.1.0 (take k bytes ++ lone.0) lone.1.1 in
    record {
      inside = f.inside;
      before = (lone.0 ++ more.0, (lone.1.0, take k bytes ++ lone.0, more.0, sym (append_assoc (take k bytes) lone.0 more.0), lone.1.1, more.1));
      here = λ long b. let t = b.1 in f.here long t.1 b.0 t.2 (t.0, t.4) t.3;
      short = λ ends t. f.short ends t.1 t.2 (t.0, t.4) t.3;
    }

-- behind bytes after which the form is another
pub behind : (Form Left : List ℕ → Type 0) (front rest : List ℕ) (k : ℕ) → ((s : List ℕ) → Form (front ++ s) → Left s) → ((s : List ℕ) → Left s → Form (front ++ s))
    → IsBadIn Left rest k → IsBadIn Form (front ++ rest) (length front + k)
behind Form Left front rest k on back h =
    let m = length front in
    let size : length (front ++ rest) ≡ m + length rest = length-append front rest in
    let inside = h.inside in
    record {
      inside = omega (arith, size);
      before = (
        h.before.0,
        subst Form (sym (ap (λ s. s ++ h.before.0) (take-append-add front rest k) ∙ append_assoc front (take k rest) h.before.0)) (back (take k rest ++ h.before.0) h.before.1),
      );
      here = λ long b.
          let far : m + k + 1 ≡ m + (k + 1) = omega arith in
          h.here (omega (arith, size)) (
            b.0,
            on (take (k + 1) rest ++ b.0)
                (subst Form (ap (λ j. take j (front ++ rest) ++ b.0) far ∙ ap (λ s. s ++ b.0) (take-append-add front rest (k + 1)) ∙ append_assoc front (take (k + 1) rest) b.0) b.1),
          );
      short = λ ends b. h.short (omega (arith, size)) (on rest b);
    }

-- after the part
pub rest-bad : {T : Type 0} (Is After : T → List ℕ → Type 0) (x : T) (a rest : List ℕ) (k : ℕ) → IsPrefixCode Is → Is x a
    → IsBadIn (After x) rest k → IsBadIn (Then Is After) (a ++ rest) (length a + k)
rest-bad Is After x a rest k code i h = behind (Then Is After) (After x) a rest k
    (λ s w.
    let same = code x w.0 a w.1 s w.2 i w.4 w.3 in
    subst (λ y. After y s) (sym same.0) (subst (After w.0) (sym same.1) w.5))
    (λ s w. (x, a, s, refl, i, w))
    h

-- bytes after the end
pub end-bad : (bytes : List ℕ) → 0 < length bytes → IsBadIn IsEnd bytes 0
end-bad [] h = absurd (omega arith)
end-bad (b ∷ bytes) h = record {
  inside = omega arith;
  before = ([], refl);
  here = λ long g. let none : b ∷ g.0 ≡ [] = g.1 in cc;
  short = λ ends g. absurd (omega arith);
}

begins-less : (Form : List ℕ → Type 0) (bytes : List ℕ) (a m : ℕ) → Begins Form (take (a + m) bytes) → Begins Form (take a bytes)
begins-less Form bytes a m b =
    let rest = take m (drop a bytes) in
    (rest ++ b.0, subst Form (ap (λ x. x ++ b.0) (take-add a m bytes) ∙ append_assoc (take a bytes) rest b.0) b.1)

not-before : (Form : List ℕ → Type 0) (bytes : List ℕ) (a b : ℕ) → IsBadIn Form bytes a → IsBadIn Form bytes b → ¬ a < b
not-before Form bytes a b h k less =
    let inside = k.inside in
    let far : b ≡ (a + 1) + (b - (a + 1)) = omega arith in
    h.here (omega arith) (begins-less Form bytes (a + 1) (b - (a + 1)) (subst (λ n. Begins Form (take n bytes)) far k.before))

-- bytes go wrong at one place
pub place-one : (Form : List ℕ → Type 0) (bytes : List ℕ) (a b : ℕ) → IsBadIn Form bytes a → IsBadIn Form bytes b → a ≡ b
place-one Form bytes a b h k =
    let first = not-before Form bytes a b h k in
    let second = not-before Form bytes b a k h in
    elim (cases_lt a b) [
      | inl less ↦ absurd (first less)
      | inr most ↦ elim (cases_lt b a) [ inl more ↦ absurd (second more) | inr least ↦ omega arith ]
    ]

-- bytes of the form don't go wrong
pub good-one : (Form : List ℕ → Type 0) (bytes : List ℕ) (at : ℕ) → Form bytes → ¬ IsBadIn Form bytes at
good-one Form bytes at o h = elim (cases_lt at (length bytes)) [
  | inl early ↦ h.here early (drop (at + 1) bytes, subst Form (sym (take-append-drop (at + 1) bytes)) o)
  | inr late ↦ let inside = h.inside in h.short (omega arith) o
]
