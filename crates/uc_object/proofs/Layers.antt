-- What is left of an object after each of its parts, and where bytes leave it.
use Rattle.std.proofs.Common.{◌≡◌, ℕ, ◌+◌, ◌<◌, ◌≤◌, ◌^◌, List, [], ◌∷◌, ◌++◌, refl, ap, sym, ◌∙◌, subst, drop, length, arith, length-append, length-drop}
use Rattle.std.specs.Int.{to_le_bytes, w32}
use Rattle.std.specs.List.{All}
use Rattle.std.proofs.lemmas.List.Elements.{All-nil, All-cons}
use Rattle.std.proofs.lemmas.List.{append-nil}
use Rattle.uc_isa.specs.declared.instruction.Instr.{Instr}
use Rattle.uc_object.specs.Rows.{IsRow}
use Rattle.uc_object.specs.Object.{AreEach, IsNumber, IsException, IsCodeObject, IsTaggedObject, IsSomeObject, IsBadPlace, header_of}
use Rattle.uc_object.specs.declared.object.Object.TheVariants.{One, Two}
use Rattle.uc_object.specs.inner.Header.{HasHeader}
use Rattle.uc_object.specs.inner.Parts.{Spells, Many, Has, IsFaultOf}
use Rattle.uc_object.proofs.Headers.{header-same}
use Rattle.uc_object.proofs.Leaving.{IsBadIn, Then, IsEnd, part-bad, behind, rest-bad, end-bad}
use Rattle.uc_object.proofs.Exceptions.{least_exception, least_exception-is, short-name}
use Rattle.uc_object.proofs.Numbers.{number-code}
use Rattle.uc_object.proofs.Rows.{zero_instruction, zeros, zeros-row}
use Rattle.uc_object.proofs.Together.{IsPrefixCode, many-some, many-one}

pub bad-place : (bytes : List ℕ) (at : ℕ) → IsBadIn IsSomeObject bytes at → IsBadPlace bytes at
bad-place bytes at h = record {
  inside = h.inside;
  before = h.before;
  here = h.here;
  short = h.short;
}

pub bad-some : (bytes : List ℕ) (at : ℕ) → IsBadPlace bytes at → IsBadIn IsSomeObject bytes at
bad-some bytes at h = record {
  inside = h.inside;
  before = h.before;
  here = h.here;
  short = h.short;
}

-- what is left
abbrev pub StartsLeft : ℕ → ℕ → List ℕ → Type 0
StartsLeft n k = Then (Many (IsNumber n) k) (λ starts. IsEnd)

abbrev pub ExceptionsLeft : ℕ → ℕ → ℕ → List ℕ → Type 0
ExceptionsLeft n x k = Then (Many IsException x) (λ exceptions. StartsLeft n k)

abbrev pub RowsLeft : ℕ → ℕ → ℕ → List ℕ → Type 0
RowsLeft n x k = Then (Many IsRow n) (λ rows. ExceptionsLeft n x k)

abbrev pub StartCountLeft : ℕ → ℕ → List ℕ → Type 0
StartCountLeft n x = Then (IsNumber 1048577) (λ k. RowsLeft n x k)

abbrev pub TaggedLeft : ℕ → List ℕ → Type 0
TaggedLeft n = Then (IsNumber 65536) (λ x. StartCountLeft n x)

abbrev pub CodeLeft : ℕ → List ℕ → Type 0
CodeLeft n = Then (Many IsRow n) (λ rows. IsEnd)

-- something can be left
pub starts-some : (n k : ℕ) → 1 ≤ n → (b : List ℕ) × StartsLeft n k b
starts-some n k some =
    let m = many-some (IsNumber n) 0 (to_le_bytes w32 0) (omega arith, refl) k in
    (m.0 ++ [], (m.1.0, m.0, [], refl, m.1.1, refl))

pub exceptions-some : (n x k : ℕ) → 1 ≤ n → (b : List ℕ) × ExceptionsLeft n x k b
exceptions-some n x k some =
    let m = many-some IsException (0, short-name) least_exception least_exception-is x in
    let rest = starts-some n k some in
    (m.0 ++ rest.0, (m.1.0, m.0, rest.0, refl, m.1.1, rest.1))

pub rows-some : (n x k : ℕ) → 1 ≤ n → (b : List ℕ) × RowsLeft n x k b
rows-some n x k some =
    let m = many-some IsRow zero_instruction zeros zeros-row n in
    let rest = exceptions-some n x k some in
    (m.0 ++ rest.0, (m.1.0, m.0, rest.0, refl, m.1.1, rest.1))

pub counts-some : (n x : ℕ) → 1 ≤ n → (b : List ℕ) × StartCountLeft n x b
counts-some n x some =
    let rest = rows-some n x 0 some in
    (to_le_bytes w32 0 ++ rest.0, (0, to_le_bytes w32 0, rest.0, refl, (omega arith, refl), rest.1))

-- after a header of version 1
code-on : (p n : ℕ) (s : List ℕ) → n < 2 ^ 31 → IsSomeObject (header_of 49 p n ++ s) → CodeLeft n s
code-on p n s few (One c, o) =
    let less = o.code.few in
    let same = header-same 49 49 p c.params n (length c.list) s o.rows (omega arith) (omega arith) o.layout in
    (c.list, o.rows, [], same.3 ∙ sym (append-nil o.rows), (sym same.2, o.each), refl)
code-on p n s few (Two t, o) =
    let less = o.code.few in
    let same = header-same 49 50 p t.code.params n (length t.code.list) s _ (omega arith) (omega arith) o.layout in
    absurd (omega (arith, same.0))

pub code-object : (p n : ℕ) (s : List ℕ) (list : List Instr) (rows : List ℕ) → p ≤ 8 → 1 ≤ n → n < 2 ^ 31 → Many IsRow n list rows → s ≡ rows → IsCodeObject (header_of 49 p n ++ s) (record { params = p; list = list })
code-object p n s list rows hp some few m e =
    let many = m.0 in
    record {
      code = record { params = hp; some = rw many some; few = rw many few };
      rows = rows;
      layout = ap (λ x. header_of 49 p n ++ x) e ∙ ap (λ x. header_of 49 p x ++ rows) (sym many);
      each = m.1;
    }

code-back : (p n : ℕ) (s : List ℕ) → p ≤ 8 → 1 ≤ n → n < 2 ^ 31 → CodeLeft n s → IsSomeObject (header_of 49 p n ++ s)
code-back p n s hp some few w =
    (One (record { params = p; list = w.0 }), code-object p n s w.0 w.1 hp some few w.4 (w.3 ∙ ap (λ x. w.1 ++ x) w.5 ∙ append-nil w.1))

-- after a header of version 2
tagged-on : (p n : ℕ) (s : List ℕ) → n < 2 ^ 31 → IsSomeObject (header_of 50 p n ++ s) → TaggedLeft n s
tagged-on p n s few (One c, o) =
    let less = o.code.few in
    let same = header-same 50 49 p c.params n (length c.list) s o.rows (omega arith) (omega arith) o.layout in
    absurd (omega (arith, same.0))
tagged-on p n s few (Two t, o) =
    let less = o.code.few in
    let same = header-same 50 50 p t.code.params n (length t.code.list) s _ (omega arith) (omega arith) o.layout in
    let x = length t.exceptions in
    let k = length t.starts in
    let fewer = o.tagged.exceptions in
    let fewest = o.tagged.starts in
    let many : length t.code.list ≡ n = sym same.2 in (
      x,
      to_le_bytes w32 x,
      to_le_bytes w32 k ++ (o.rows ++ (o.exceptions ++ o.starts)),
      same.3,
      (omega arith, refl),
      (
        k,
        to_le_bytes w32 k,
        o.rows ++ (o.exceptions ++ o.starts),
        refl,
        (omega arith, refl),
        (
          t.code.list,
          o.rows,
          o.exceptions ++ o.starts,
          refl,
          (many, o.each_row),
          (
            t.exceptions,
            o.exceptions,
            o.starts,
            refl,
            (refl, o.each_exception),
            (t.starts, o.starts, [], sym (append-nil o.starts), (refl, subst (λ m. AreEach (IsNumber m) t.starts o.starts) many o.each_start), refl),
          ),
        ),
      ),
    )

-- starts that have their bytes are below their bound
pub starts-below : (n : ℕ) (starts bytes : List ℕ) → AreEach (IsNumber n) starts bytes → All (λ start. start < n) starts
starts-below n [] bytes h = All-nil (λ start. start < n)
starts-below n (s ∷ starts) bytes h = All-cons (λ start. start < n) s starts h.3.0 (starts-below n starts h.1 h.4)

-- the parts of an object of version 2
pub record Parts (n x k : ℕ) (list : List Instr) (exceptions : List (ℕ × List ℕ)) (starts bytes : List ℕ) : Type 0 where
  pub a : List ℕ
  pub b : List ℕ
  pub c : List ℕ
  pub layout : bytes ≡ to_le_bytes w32 x ++ (to_le_bytes w32 k ++ (a ++ (b ++ c)))
  pub few_exceptions : x < 65536
  pub few_starts : k < 1048577
  pub rows : Many IsRow n list a
  pub named : Many IsException x exceptions b
  pub started : Many (IsNumber n) k starts c

pub tagged-object : (p n x k : ℕ) (s : List ℕ) (list : List Instr) (exceptions : List (ℕ × List ℕ)) (starts : List ℕ) → p ≤ 8 → 1 ≤ n → n < 2 ^ 31 → Parts n x k list exceptions starts s
    → IsTaggedObject (header_of 50 p n ++ s) (record { code = record { params = p; list = list }; exceptions = exceptions; starts = starts })
tagged-object p n x k s list exceptions starts hp some few h =
    let many = h.rows.0 in
    let many_exceptions = h.named.0 in
    let many_starts = h.started.0 in
    let fewer = h.few_exceptions in
    let fewest = h.few_starts in
    let inside = starts-below n starts h.c h.started.1 in
    record {
      code = record { params = hp; some = rw many some; few = rw many few };
      tagged = record { exceptions = omega arith; starts = omega arith; inside = subst (λ m. All (λ start. start < m) starts) (sym many) inside };
      rows = h.a;
      exceptions = h.b;
      starts = h.c;
      layout = rw (many, many_exceptions, many_starts) (ap (λ y. header_of 50 p n ++ y) h.layout);
      each_row = h.rows.1;
      each_exception = h.named.1;
      each_start = subst (λ m. AreEach (IsNumber m) starts h.c) (sym many) h.started.1;
    }

tagged-back : (p n : ℕ) (s : List ℕ) → p ≤ 8 → 1 ≤ n → n < 2 ^ 31 → TaggedLeft n s → IsSomeObject (header_of 50 p n ++ s)
tagged-back p n s hp some few (x, xb, s1, e1, hx, (k, kb, s2, e2, hk, (list, a, s3, e3, ha, (exceptions, b, s4, e4, hb, (starts, c, s5, e5, hc, ended))))) =
    let last : s4 ≡ c = e5 ∙ ap (λ y. c ++ y) ended ∙ append-nil c in
    let third : s3 ≡ b ++ c = e4 ∙ ap (λ y. b ++ y) last in
    let second : s2 ≡ a ++ (b ++ c) = e3 ∙ ap (λ y. a ++ y) third in
    let first : s1 ≡ to_le_bytes w32 k ++ (a ++ (b ++ c)) = e2 ∙ ap (λ y. kb ++ y) second ∙ ap (λ y. y ++ (a ++ (b ++ c))) hk.1 in
    let whole : s ≡ to_le_bytes w32 x ++ (to_le_bytes w32 k ++ (a ++ (b ++ c))) = e1 ∙ ap (λ y. xb ++ y) first ∙ ap (λ y. y ++ (to_le_bytes w32 k ++ (a ++ (b ++ c)))) hx.1 in (
      Two (record { code = record { params = p; list = list }; exceptions = exceptions; starts = starts }),
      tagged-object p n x k s list exceptions starts hp some few record {
        a = a;
        b = b;
        c = c;
        layout = whole;
        few_exceptions = hx.0;
        few_starts = hk.0;
        rows = ha;
        named = hb;
        started = hc;
      },
    )

-- where the rest of bytes leaves a form, the bytes go wrong
abbrev pub Decides : (List ℕ → Type 0) → List ℕ → ℕ → Type 0
Decides Form bytes start = (k : ℕ) → IsBadIn Form (drop start bytes) k → IsBadPlace bytes (start + k)

pub decides-code : (p n : ℕ) (bytes : List ℕ) → HasHeader bytes 49 p n (drop 12 bytes) → Decides (CodeLeft n) bytes 12
decides-code p n bytes h k bad =
    bad-place bytes (12 + k)
    (subst (λ x. IsBadIn IsSomeObject x (12 + k)) (sym h.layout)
    (behind IsSomeObject (CodeLeft n) (header_of 49 p n) (drop 12 bytes) k (λ s. code-on p n s h.few) (λ s. code-back p n s h.arguments h.some h.few) bad))

pub decides-tagged : (p n : ℕ) (bytes : List ℕ) → HasHeader bytes 50 p n (drop 12 bytes) → Decides (TaggedLeft n) bytes 12
decides-tagged p n bytes h k bad =
    bad-place bytes (12 + k)
    (subst (λ x. IsBadIn IsSomeObject x (12 + k)) (sym h.layout)
    (behind IsSomeObject (TaggedLeft n) (header_of 50 p n) (drop 12 bytes) k (λ s. tagged-on p n s h.few) (λ s. tagged-back p n s h.arguments h.some h.few) bad))

-- after a number
pub decides-number : (bound v start : ℕ) (After : ℕ → List ℕ → Type 0) (bytes : List ℕ) → bound ≤ 2 ^ 32 → v < bound → drop start bytes ≡ to_le_bytes w32 v ++ drop (start + 4) bytes
    → Decides (Then (IsNumber bound) After) bytes start → Decides (After v) bytes (start + 4)
decides-number bound v start After bytes few less e h k bad =
    let far : start + (4 + k) ≡ start + 4 + k = omega arith in
    subst (IsBadPlace bytes) far
    (h (4 + k)
    (subst (λ s. IsBadIn (Then (IsNumber bound) After) s (4 + k)) (sym e)
    (rest-bad (IsNumber bound) After v (to_le_bytes w32 v) (drop (start + 4) bytes) k (number-code bound few) (less, refl) bad)))

-- behind so many things
pub decides-many : {T : Type 0} (Is : T → List ℕ → Type 0) (After : List ℕ → Type 0) (n start end : ℕ) (xs : List T) (bytes : List ℕ) → IsPrefixCode Is → start ≤ length bytes → end ≤ length bytes
    → Has Is n xs (drop start bytes) (drop end bytes) → Decides (Then (Many Is n) (λ ys. After)) bytes start → Decides After bytes end
decides-many Is After n start end xs bytes code in_start in_end has h k bad =
    let size = ap length has.layout ∙ length-append has.part (drop end bytes) in
    let far : start + (length has.part + k) ≡ end + k = omega (arith, size, length-drop start bytes, length-drop end bytes) in
    subst (IsBadPlace bytes) far
    (h (length has.part + k)
    (subst (λ s. IsBadIn (Then (Many Is n) (λ ys. After)) s (length has.part + k)) (sym has.layout)
    (rest-bad (Many Is n) (λ ys. After) xs has.part (drop end bytes) k (many-one Is code n) has.many bad)))

-- where the next part has a fault
pub decides-fault : {T : Type 0} (Is After : T → List ℕ → Type 0) (start at k : ℕ) (bytes : List ℕ) → Decides (Then Is After) bytes start → ((x : T) (a : List ℕ) → Is x a → (b : List ℕ) × After x b)
    → at ≡ start + k → IsFaultOf (Spells Is) (drop start bytes) k → IsBadPlace bytes at
decides-fault Is After start at k bytes h goes e f = subst (IsBadPlace bytes) (sym e) (h k (part-bad Is After (drop start bytes) k goes f))

-- bytes after the end
pub decides-end : (end : ℕ) (bytes : List ℕ) → Decides IsEnd bytes end → end < length bytes → IsBadPlace bytes end
decides-end end bytes h more =
    let some : 0 < length (drop end bytes) = omega (arith, length-drop end bytes) in
    let far : end + 0 ≡ end = omega arith in
    subst (IsBadPlace bytes) far (h 0 (end-bad (drop end bytes) some))
