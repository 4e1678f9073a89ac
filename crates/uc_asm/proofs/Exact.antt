-- Of a text's answers one is true.
use Rattle.std.proofs.Common.{◌≡◌, ℕ, ◌<◌, ◌≤◌, ◌^◌, inl, inr, List, length, refl, sym, ap, subst, arith, Result, Ok, Err, IfOk, IfErr, ◌⊎◌}
use Rattle.std.proofs.lemmas.Option.{slice_get_within}
use Rattle.uc_isa.specs.Code.{CodeView}
use Rattle.uc_isa.specs.Lawful.{IsLawful, IsFirstBroken}
use Rattle.uc_isa.specs.declared.instruction.Instr.{Instr}
use Rattle.uc_isa.proofs.FirstBroken.{first-one, first-unlawful}
use Rattle.uc_asm.specs.Items.{Item, count}
use Rattle.uc_asm.specs.Text.{Reads, IsSyntaxError}
use Rattle.uc_asm.specs.Labels.{AreNamed, AreResolved, Says, IsCodeOf, IsLabelError, IsUnlawfulError, FirstMisnamed}
use Rattle.uc_asm.specs.inner.Resolving.{IsNameError, IsLineOf}
use Rattle.uc_asm.specs.Answer.{IsTrueError, Answers}
use Rattle.uc_asm.specs.declared.error.AsmError.{AsmError}
use Rattle.uc_asm.specs.declared.error.AsmError.TheVariants.{NoMemory, Syntax, Label, Unlawful}
use Rattle.uc_asm.proofs.OneReading.{reads-one, reads-no-syntax, syntax-one}
use Rattle.uc_asm.specs.inner.Seen.{all_seen}
use Rattle.uc_asm.specs.declared.item.Item.{Item as ReadItem}
use Rattle.uc_asm.proofs.StandLemmas.{count-small, length-seen}
use Rattle.uc_asm.proofs.MeaningLemmas.{resolved-one, resolved-length, misnamed-one, misnamed-not, line-one}

-- a text says one thing
says-one : (bytes : List ℕ) (m n : ℕ) (xs ys : List Item) (l k : List Instr) → Says bytes m xs l → Says bytes n ys k → (m ≡ n) × (xs ≡ ys) × (l ≡ k)
says-one bytes m n xs ys l k s t =
    let r = reads-one bytes m n xs ys s.reads t.reads in
    let same = r.1 in
    (r.0, same, resolved-one ys ys l k t.named (subst (λ (zs : List Item). AreResolved zs zs l) same s.resolved) t.resolved)

pub code-one : (bytes : List ℕ) (c d : CodeView) → IsCodeOf bytes c → IsCodeOf bytes d → c ≡ d
code-one bytes c d h k =
    let r = says-one bytes c.params d.params h.items k.items c.list d.list h.says k.says in
    let params = r.0 in
    let list = r.2 in
    λ j. record { params = params j; list = list j }

-- a name's fault
says-no-label : (bytes : List ℕ) (params : ℕ) (items : List Item) (list : List Instr) (n : ℕ) → Says bytes params items list → ¬ IsLabelError bytes n
says-no-label bytes params items list n s e =
    let same = (reads-one bytes params e.params items e.items s.reads e.reads).1 in
    misnamed-not e.items e.front e.first (subst AreNamed same s.named)

label-one : (bytes : List ℕ) (m n : ℕ) → IsLabelError bytes m → IsLabelError bytes n → m ≡ n
label-one bytes m n e f =
    let same = (reads-one bytes e.params f.params e.items f.items e.reads f.reads).1 in
    let lengths = misnamed-one f.items e.front f.front (subst (λ (zs : List Item). FirstMisnamed zs e.front) same e.first) f.first in
    let a = e.line in
    let b = f.line in
    omega arith

-- a broken rule
broken-line : (bytes : List ℕ) (n rule : ℕ) (e : IsUnlawfulError bytes n rule) → IsLineOf e.items (count e.front) n
broken-line bytes n rule e = record { front = e.front; item = e.item; back = e.back; stands = e.stands; instruction = e.instruction; before = refl; line = e.line }

code-lawful : (bytes : List ℕ) (c : CodeView) (n rule : ℕ) → IsCodeOf bytes c → ¬ IsUnlawfulError bytes n rule
code-lawful bytes c n rule h e =
    let same = (says-one bytes c.params e.params h.items e.items c.list e.list h.says e.says).2 in
    first-unlawful e.list (count e.front) rule e.broken (subst IsLawful same h.lawful)

unlawful-one : (bytes : List ℕ) (m q n r : ℕ) → IsUnlawfulError bytes m q → IsUnlawfulError bytes n r → (m ≡ n) × (q ≡ r)
unlawful-one bytes m q n r e f =
    let same = says-one bytes e.params f.params e.items f.items e.list f.list e.says f.says in
    let both = first-one f.list (count e.front) q (count f.front) r (subst (λ (l : List Instr). IsFirstBroken l (count e.front) q) same.2 e.broken) f.broken in
    let mine = subst (λ (p : ℕ). IsLineOf e.items p m) both.0 (broken-line bytes m q e) in
    (line-one f.items (count f.front) m n (subst (λ (zs : List Item). IsLineOf zs (count f.front) m) same.1 mine) (broken-line bytes n r f), both.1)

module _ (bytes : List ℕ) where
  pub given-answer : (r : Result CodeView AsmError) → IfOk r (IsCodeOf bytes) → IfErr r (IsTrueError bytes) → (c : CodeView) → IsCodeOf bytes c → Answers r (Ok c)
  given-answer (Ok d) h e c k = inl (ap Ok (code-one bytes d c h k))
  given-answer (Err NoMemory) h e c k = inr refl
  given-answer (Err (Syntax n)) h e c k = absurd (reads-no-syntax bytes c.params k.items n k.says.reads e)
  given-answer (Err (Label n)) h e c k = absurd (says-no-label bytes c.params k.items c.list n k.says e)
  given-answer (Err (Unlawful n rule)) h e c k = absurd (code-lawful bytes c n rule k e)

  pub syntax-answer : (r : Result CodeView AsmError) → IfOk r (IsCodeOf bytes) → IfErr r (IsTrueError bytes) → (n : ℕ) → IsSyntaxError bytes n → Answers r (Err (Syntax n))
  syntax-answer (Ok d) h e n k = absurd (reads-no-syntax bytes d.params h.items n h.says.reads k)
  syntax-answer (Err NoMemory) h e n k = inr refl
  syntax-answer (Err (Syntax m)) h e n k = inl (ap (λ (l : ℕ). Err (Syntax l)) (syntax-one bytes m n e k))
  syntax-answer (Err (Label m)) h e n k = absurd (reads-no-syntax bytes e.params e.items n e.reads k)
  syntax-answer (Err (Unlawful m rule)) h e n k = absurd (reads-no-syntax bytes e.params e.items n e.says.reads k)

  pub label-answer : (r : Result CodeView AsmError) → IfOk r (IsCodeOf bytes) → IfErr r (IsTrueError bytes) → (n : ℕ) → IsLabelError bytes n → Answers r (Err (Label n))
  label-answer (Ok d) h e n k = absurd (says-no-label bytes d.params h.items d.list n h.says k)
  label-answer (Err NoMemory) h e n k = inr refl
  label-answer (Err (Syntax m)) h e n k = absurd (reads-no-syntax bytes k.params k.items m k.reads e)
  label-answer (Err (Label m)) h e n k = inl (ap (λ (l : ℕ). Err (Label l)) (label-one bytes m n e k))
  label-answer (Err (Unlawful m rule)) h e n k = absurd (says-no-label bytes e.params e.items e.list n e.says k)

  pub unlawful-answer : (r : Result CodeView AsmError) → IfOk r (IsCodeOf bytes) → IfErr r (IsTrueError bytes) → (n rule : ℕ) → IsUnlawfulError bytes n rule → Answers r (Err (Unlawful n rule))
  unlawful-answer (Ok d) h e n rule k = absurd (code-lawful bytes d n rule h k)
  unlawful-answer (Err NoMemory) h e n rule k = inr refl
  unlawful-answer (Err (Syntax m)) h e n rule k = absurd (reads-no-syntax bytes k.params k.items m k.says.reads e)
  unlawful-answer (Err (Label m)) h e n rule k = absurd (says-no-label bytes k.params k.items k.list m k.says e)
  unlawful-answer (Err (Unlawful m other)) h e n rule k =
      let both = unlawful-one bytes m other n rule e k in
      inl (λ j. Err (Unlawful (both.0 j) (both.1 j)))

-- a text of a code has no error, and another text has one
pub no-error : (bytes : List ℕ) (c : CodeView) (e : AsmError) → IsCodeOf bytes c → IsTrueError bytes e → e ≡ NoMemory
no-error bytes c NoMemory h t = refl
no-error bytes c (Syntax n) h t = absurd (reads-no-syntax bytes c.params h.items n h.says.reads t)
no-error bytes c (Label n) h t = absurd (says-no-label bytes c.params h.items c.list n h.says t)
no-error bytes c (Unlawful n rule) h t = absurd (code-lawful bytes c n rule h t)

either : (e f : AsmError) → Answers (Err e) (Err f) → (e ≡ f) ⊎ (e ≡ NoMemory) ⊎ (f ≡ NoMemory)
either e f (inl p) = let same : e ≡ f = cc in inl same
either e f (inr p) = let none : e ≡ NoMemory = cc in inr (inl none)

pub error-one : (bytes : List ℕ) (e f : AsmError) → IsTrueError bytes e → IsTrueError bytes f → (e ≡ f) ⊎ (e ≡ NoMemory) ⊎ (f ≡ NoMemory)
error-one bytes e NoMemory t k = inr (inr refl)
error-one bytes e (Syntax n) t k = either e (Syntax n) (syntax-answer bytes (Err e) tt t n k)
error-one bytes e (Label n) t k = either e (Label n) (label-answer bytes (Err e) tt t n k)
error-one bytes e (Unlawful n rule) t k = either e (Unlawful n rule) (unlawful-answer bytes (Err e) tt t n rule k)

-- what the assembler's parts find is true of the text
pub name-error : (bytes : List ℕ) (params : ℕ) (items : List Item) (e : AsmError) → Reads bytes params items → IsNameError items e → IsTrueError bytes e
name-error bytes params items NoMemory r h = tt
name-error bytes params items (Syntax n) r h = absurd h
name-error bytes params items (Label n) r h = record { params = params; items = items; front = h.0; reads = r; first = h.1; line = h.2 }
name-error bytes params items (Unlawful n rule) r h = absurd h

pub rule-error : (bytes : List ℕ) (params : ℕ) (items : List Item) (list : List Instr) (place rule n : ℕ) → Says bytes params items list → IsFirstBroken list place rule → IsLineOf items place n → IsUnlawfulError bytes n rule
rule-error bytes params items list place rule n s b h =
    record {
      params = params;
      items = items;
      list = list;
      front = h.front;
      item = h.item;
      back = h.back;
      says = s;
      stands = h.stands;
      instruction = h.instruction;
      broken = subst (λ (p : ℕ). IsFirstBroken list p rule) (sym h.before) b;
      line = h.line;
    }

-- the instructions are at least one, and few
pub code-some : (bytes : List ℕ) (params : ℕ) (items here : List ReadItem) (list : List Instr) → Reads bytes params (all_seen items) → here ≡ items → AreResolved (all_seen here) (all_seen here) list → 1 ≤ length list
code-some bytes params items here list r e h =
    let some = r.assembly.some in
    omega (arith, resolved-length (all_seen here) (all_seen here) list h, ap (λ (is : List ReadItem). count (all_seen is)) e)

pub code-few : (items here : List ReadItem) (list : List Instr) → length items < 2 ^ 31 → here ≡ items → AreResolved (all_seen here) (all_seen here) list → length list < 2 ^ 31
code-few items here list few e h =
    omega (arith, resolved-length (all_seen here) (all_seen here) list h, count-small (all_seen here), length-seen here, ap (λ (is : List ReadItem). length is) e)

-- what breaks a rule is an instruction of the text
pub place-inside : (here there : List ReadItem) (list code : List Instr) (place rule : ℕ) → here ≡ there → code ≡ list → AreResolved (all_seen here) (all_seen here) list → IsFirstBroken code place rule → place < count (all_seen there)
place-inside here there list code place rule e same h b =
    let broken = b.least.broken in
    omega (arith, slice_get_within code place broken.0 broken.1, ap (λ (is : List Instr). length is) same, resolved-length (all_seen here) (all_seen here) list h, ap (λ (is : List ReadItem). count (all_seen is)) e)
