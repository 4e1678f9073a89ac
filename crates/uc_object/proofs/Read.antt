-- What was read of an object, and where the bytes after it go wrong.
use Rattle.std.proofs.Common.{◌≡◌, ℕ, ◌+◌, ◌<◌, ◌≤◌, ◌^◌, List, [], ◌++◌, refl, ap, sym, ◌∙◌, subst, take, drop, length, arith, Result, Err}
use Rattle.std.specs.Int.{to_le_bytes, w32}
use Rattle.std.proofs.lemmas.List.{append-nil, drop-drop, drop_at, take-append-drop, drop_all}
use Rattle.uc_isa.specs.declared.instruction.Instr.{Instr}
use Rattle.uc_object.specs.Rows.{IsRow}
use Rattle.uc_object.specs.Object.{IsNumber, IsException, IsCodeObject, IsTaggedObject, IsBadPlace}
use Rattle.uc_object.specs.declared.error.ObjectError.{ObjectError}
use Rattle.uc_object.specs.declared.error.ObjectError.TheVariants.{Bad}
use Rattle.uc_object.specs.inner.Header.{HasHeader, HasCounts}
use Rattle.uc_object.specs.inner.Parts.{Spells, Many, Has, IsFaultOf, IsFaultAfter}
use Rattle.uc_object.proofs.Leaving.{IsEnd}
use Rattle.uc_object.proofs.Exceptions.{exception-code}
use Rattle.uc_object.proofs.Numbers.{number-code}
use Rattle.uc_object.proofs.Rows.{row-code}
use Rattle.uc_object.proofs.Layers.{StartsLeft, ExceptionsLeft, RowsLeft, StartCountLeft, Decides, starts-some, exceptions-some, rows-some, counts-some, decides-code, decides-tagged, decides-number, decides-many, decides-fault, decides-end, code-object, tagged-object}

-- an error that was passed on
pub passed : {T : Type 0} (answer : Result T ObjectError) (x e : ObjectError) (at : ℕ) → answer ≡ Err x → x ≡ e → answer ≡ Err (Bad at) → e ≡ Bad at
passed answer x e at is same bad = let both : Err x ≡ Err (Bad at) = sym is ∙ bad in let it : x ≡ Bad at = cc in sym same ∙ it

-- a number that was read, and the rest
pub number-layout : (bound v start : ℕ) (bytes : List ℕ) → IsNumber bound v (take 4 (drop start bytes)) → drop start bytes ≡ to_le_bytes w32 v ++ drop (start + 4) bytes
number-layout bound v start bytes h =
    sym (take-append-drop 4 (drop start bytes)) ∙ ap (λ x. x ++ drop 4 (drop start bytes)) h.1 ∙ ap (λ x. to_le_bytes w32 v ++ x) (drop-drop 4 start bytes)

-- where the number of exceptions goes wrong
pub exceptions-count-bad : (p n at k : ℕ) (bytes : List ℕ) → HasHeader bytes 50 p n (drop 12 bytes) → at ≡ 12 + k → IsFaultOf (Spells (IsNumber 65536)) (drop 12 bytes) k → IsBadPlace bytes at
exceptions-count-bad p n at k bytes h e f =
    decides-fault (IsNumber 65536) (λ x. StartCountLeft n x) 12 at k bytes (decides-tagged p n bytes h) (λ x a is. counts-some n x h.some) e f

-- what is left after it
starts-decide : (p n x : ℕ) (bytes : List ℕ) → HasHeader bytes 50 p n (drop 12 bytes) → x < 65536 → drop 12 bytes ≡ to_le_bytes w32 x ++ drop 16 bytes → Decides (StartCountLeft n x) bytes 16
starts-decide p n x bytes h less e = decides-number 65536 x 12 (λ y. StartCountLeft n y) bytes (omega arith) less e (decides-tagged p n bytes h)

-- where the number of starts goes wrong
pub starts-count-bad : (p n x at k : ℕ) (bytes : List ℕ) → HasHeader bytes 50 p n (drop 12 bytes) → IsNumber 65536 x (take 4 (drop 12 bytes)) → at ≡ 16 + k → IsFaultOf (Spells (IsNumber 1048577)) (drop 16 bytes) k → IsBadPlace bytes at
starts-count-bad p n x at k bytes h number e f =
    decides-fault (IsNumber 1048577) (λ y. RowsLeft n x y) 16 at k bytes (starts-decide p n x bytes h number.0 (number-layout 65536 x 12 bytes number)) (λ y a is. rows-some n x y h.some) e f

pub has-counts : (x k : ℕ) (bytes : List ℕ) → IsNumber 65536 x (take 4 (drop 12 bytes)) → IsNumber 1048577 k (take 4 (drop 16 bytes)) → 20 ≤ length bytes → HasCounts bytes x k
has-counts x k bytes hx hk long = record {
  long = long;
  layout = number-layout 65536 x 12 bytes hx ∙ ap (λ y. to_le_bytes w32 x ++ y) (number-layout 1048577 k 16 bytes hk);
  few_exceptions = hx.0;
  few_starts = hk.0;
}

-- behind both numbers
pub rows-decide : (p n x k : ℕ) (bytes : List ℕ) → HasHeader bytes 50 p n (drop 12 bytes) → HasCounts bytes x k → Decides (RowsLeft n x k) bytes 20
rows-decide p n x k bytes h counts =
    let rest = to_le_bytes w32 k ++ drop 20 bytes in
    let second : drop 16 bytes ≡ rest = sym (drop-drop 4 12 bytes) ∙ ap (drop 4) counts.layout ∙ drop_at (to_le_bytes w32 x) rest 4 refl in
    let first : drop 12 bytes ≡ to_le_bytes w32 x ++ drop 16 bytes = counts.layout ∙ ap (λ y. to_le_bytes w32 x ++ y) (sym second) in
    decides-number 1048577 k 16 (λ y. RowsLeft n x y) bytes (omega arith) counts.few_starts second (starts-decide p n x bytes h counts.few_exceptions first)

pub rows-bad : (p n x k at : ℕ) (bytes : List ℕ) → HasHeader bytes 50 p n (drop 12 bytes) → HasCounts bytes x k → IsFaultAfter IsRow n bytes 20 at → IsBadPlace bytes at
rows-bad p n x k at bytes h counts f =
    decides-fault (Many IsRow n) (λ rows. ExceptionsLeft n x k) 20 at f.0 bytes (rows-decide p n x k bytes h counts) (λ rows a is. exceptions-some n x k h.some) f.1 f.2

-- after the instructions
pub exceptions-decide : (p n x k end : ℕ) (list : List Instr) (bytes : List ℕ) → HasHeader bytes 50 p n (drop 12 bytes) → HasCounts bytes x k → end ≤ length bytes → Has IsRow n list (drop 20 bytes) (drop end bytes)
    → Decides (ExceptionsLeft n x k) bytes end
exceptions-decide p n x k end list bytes h counts inside has =
    decides-many IsRow (ExceptionsLeft n x k) n 20 end list bytes row-code counts.long inside has (rows-decide p n x k bytes h counts)

pub exceptions-bad : (n x k end at : ℕ) (bytes : List ℕ) → 1 ≤ n → Decides (ExceptionsLeft n x k) bytes end → IsFaultAfter IsException x bytes end at → IsBadPlace bytes at
exceptions-bad n x k end at bytes some decide f =
    decides-fault (Many IsException x) (λ exceptions. StartsLeft n k) end at f.0 bytes decide (λ exceptions a is. starts-some n k some) f.1 f.2

-- after the exceptions
pub starts-left : (n x k start end : ℕ) (exceptions : List (ℕ × List ℕ)) (bytes : List ℕ) → start ≤ length bytes → end ≤ length bytes → Has IsException x exceptions (drop start bytes) (drop end bytes)
    → Decides (ExceptionsLeft n x k) bytes start → Decides (StartsLeft n k) bytes end
starts-left n x k start end exceptions bytes in_start in_end has decide = decides-many IsException (StartsLeft n k) x start end exceptions bytes exception-code in_start in_end has decide

pub starts-bad : (n k end at : ℕ) (bytes : List ℕ) → Decides (StartsLeft n k) bytes end → IsFaultAfter (IsNumber n) k bytes end at → IsBadPlace bytes at
starts-bad n k end at bytes decide f = decides-fault (Many (IsNumber n) k) (λ starts. IsEnd) end at f.0 bytes decide (λ starts a is. ([], refl)) f.1 f.2

-- after the starts
pub end-left : (n k start end : ℕ) (starts bytes : List ℕ) → n < 2 ^ 31 → start ≤ length bytes → end ≤ length bytes → Has (IsNumber n) k starts (drop start bytes) (drop end bytes)
    → Decides (StartsLeft n k) bytes start → Decides IsEnd bytes end
end-left n k start end starts bytes few in_start in_end has decide = decides-many (IsNumber n) IsEnd k start end starts bytes (number-code n (omega arith)) in_start in_end has decide

-- all of version 1
pub code-rows-bad : (p n at : ℕ) (bytes : List ℕ) → HasHeader bytes 49 p n (drop 12 bytes) → IsFaultAfter IsRow n bytes 12 at → IsBadPlace bytes at
code-rows-bad p n at bytes h f = decides-fault (Many IsRow n) (λ rows. IsEnd) 12 at f.0 bytes (decides-code p n bytes h) (λ rows a is. ([], refl)) f.1 f.2

pub code-end-bad : (p n end : ℕ) (list : List Instr) (bytes : List ℕ) → HasHeader bytes 49 p n (drop 12 bytes) → 12 ≤ length bytes → end < length bytes → Has IsRow n list (drop 12 bytes) (drop end bytes) → IsBadPlace bytes end
code-end-bad p n end list bytes h long more has =
    decides-end end bytes (decides-many IsRow IsEnd n 12 end list bytes row-code long (omega arith) has (decides-code p n bytes h)) more

pub code-read : (p n end : ℕ) (list : List Instr) (bytes : List ℕ) → HasHeader bytes 49 p n (drop 12 bytes) → end ≡ length bytes → Has IsRow n list (drop 12 bytes) (drop end bytes) → IsCodeObject bytes (record { params = p; list = list })
code-read p n end list bytes h ends has =
    let none : drop end bytes ≡ [] = drop_all end bytes (omega arith) in
    let whole = has.layout ∙ ap (λ x. has.part ++ x) none ∙ append-nil has.part in
    subst (λ x. IsCodeObject x (record { params = p; list = list })) (sym h.layout) (code-object p n (drop 12 bytes) list has.part h.arguments h.some h.few has.many whole)

-- all of version 2
pub tagged-read : (p n x k e1 e2 e3 : ℕ) (list : List Instr) (exceptions : List (ℕ × List ℕ)) (starts bytes : List ℕ) → HasHeader bytes 50 p n (drop 12 bytes) → HasCounts bytes x k → e3 ≡ length bytes
    → Has IsRow n list (drop 20 bytes) (drop e1 bytes) → Has IsException x exceptions (drop e1 bytes) (drop e2 bytes) → Has (IsNumber n) k starts (drop e2 bytes) (drop e3 bytes)
    → IsTaggedObject bytes (record { code = record { params = p; list = list }; exceptions = exceptions; starts = starts })
tagged-read p n x k e1 e2 e3 list exceptions starts bytes h counts ends rows named started =
    let none : drop e3 bytes ≡ [] = drop_all e3 bytes (omega arith) in
    let last : drop e2 bytes ≡ started.part = started.layout ∙ ap (λ y. started.part ++ y) none ∙ append-nil started.part in
    let middle : drop e1 bytes ≡ named.part ++ started.part = named.layout ∙ ap (λ y. named.part ++ y) last in
    let first : drop 20 bytes ≡ rows.part ++ (named.part ++ started.part) = rows.layout ∙ ap (λ y. rows.part ++ y) middle in
    subst (λ y. IsTaggedObject y (record { code = record { params = p; list = list }; exceptions = exceptions; starts = starts })) (sym h.layout)
    (tagged-object p n x k (drop 12 bytes) list exceptions starts h.arguments h.some h.few record {
      a = rows.part;
      b = named.part;
      c = started.part;
      layout = counts.layout ∙ ap (λ y. to_le_bytes w32 x ++ (to_le_bytes w32 k ++ y)) first;
      few_exceptions = counts.few_exceptions;
      few_starts = counts.few_starts;
      rows = rows.many;
      named = named.many;
      started = started.many;
    })
