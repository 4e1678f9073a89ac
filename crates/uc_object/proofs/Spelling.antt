-- An object has one spelling, and bytes are one object.
use Rattle.std.proofs.Common.{◌≡◌, ℕ, List, [], ◌++◌, ap, sym, ◌∙◌, subst, length, arith}
use Rattle.uc_isa.specs.Code.{CodeView}
use Rattle.uc_isa.specs.declared.instruction.Src.{Src}
use Rattle.uc_isa.specs.declared.instruction.Src.TheVariants as src
use Rattle.uc_isa.specs.declared.instruction.Dst.{Dst}
use Rattle.uc_isa.specs.declared.instruction.Dst.TheVariants as dst
use Rattle.uc_isa.specs.declared.instruction.Gpr.{Gpr}
use Rattle.uc_isa.specs.declared.instruction.Gpr.TheVariants as gpr
use Rattle.uc_isa.specs.declared.instruction.Instr.{Instr}
use Rattle.uc_isa.specs.declared.instruction.Instr.TheVariants.{Alu, Un, Immed, Br, Read, Write, Halt}
use Rattle.uc_object.specs.Rows.{IsSource, IsTarget, IsAddress, IsRow}
use Rattle.uc_object.specs.Tagged.{TaggedView}
use Rattle.uc_object.specs.Object.{AreEach, IsNumber, IsException, IsObject, header_of}
use Rattle.uc_object.specs.declared.object.Object.{Object}
use Rattle.uc_object.specs.declared.object.Object.TheVariants.{One, Two}
use Rattle.uc_object.proofs.Exceptions.{exception-code, exception-same}
use Rattle.uc_object.proofs.Headers.{header-same}
use Rattle.uc_object.proofs.Numbers.{number-code, number-same}
use Rattle.uc_object.proofs.Rows.{row-code}
use Rattle.uc_object.proofs.Together.{HasOneSpelling, each-same, each-one}

source-same : (s : Src) (a b : ℕ) → IsSource s a → IsSource s b → a ≡ b
source-same (src.A i) a b h k = h.1 ∙ sym k.1
source-same (src.B i) a b h k = h.1 ∙ sym k.1
source-same (src.L i) a b h k = h.1 ∙ sym k.1
source-same (src.LD i) a b h k = h.1 ∙ sym k.1

target-same : (d : Dst) (a b : ℕ) → IsTarget d a → IsTarget d b → a ≡ b
target-same (dst.A i) a b h k = h.1 ∙ sym k.1
target-same (dst.B i) a b h k = h.1 ∙ sym k.1
target-same (dst.S i) a b h k = h.1 ∙ sym k.1
target-same (dst.SD i) a b h k = h.1 ∙ sym k.1
target-same dst.Nowhere a b h k = h ∙ sym k

address-same : (x : Gpr) (a b : ℕ) → IsAddress x a → IsAddress x b → a ≡ b
address-same (gpr.A i) a b h k = h.1 ∙ sym k.1
address-same (gpr.B i) a b h k = h.1 ∙ sym k.1

row-same : HasOneSpelling IsRow
row-same (Alu d op x y) a b h k =
    let t = target-same d h.0 k.0 h.3 k.3 in
    let s = source-same x h.1 k.1 h.4 k.4 in
    let r = source-same y h.2 k.2 h.5 k.5 in
    cc
row-same (Un d op x) a b h k =
    let t = target-same d h.0 k.0 h.2 k.2 in
    let s = source-same x h.1 k.1 h.3 k.3 in
    cc
row-same (Immed d v s) a b h k = let t = target-same d h.0 k.0 h.1 k.1 in cc
row-same (Br cond target) a b h k = h.1 ∙ sym k.1
row-same (Read m r n x off) a b h k = let t = address-same x h.0 k.0 h.1 k.1 in cc
row-same (Write m r n x off) a b h k = let t = address-same x h.0 k.0 h.1 k.1 in cc
row-same (Halt n k) a b h j = h.2 ∙ sym j.2

pub number-spelled : (bound : ℕ) → HasOneSpelling (IsNumber bound)
number-spelled bound n a b h k = h.1 ∙ sym k.1

-- an object has one spelling
pub object-same : (o : Object) (a b : List ℕ) → IsObject a o → IsObject b o → a ≡ b
object-same (One c) a b o q = o.layout ∙ ap (λ x. header_of 49 c.params (length c.list) ++ x) (each-same IsRow row-same c.list o.rows q.rows o.each q.each) ∙ sym q.layout
object-same (Two t) a b o q =
    let rows = each-same IsRow row-same t.code.list o.rows q.rows o.each_row q.each_row in
    let exceptions = each-same IsException exception-same t.exceptions o.exceptions q.exceptions o.each_exception q.each_exception in
    let starts = each-same (IsNumber (length t.code.list)) (number-spelled (length t.code.list)) t.starts o.starts q.starts o.each_start q.each_start in
    o.layout ∙ rw (rows, exceptions, starts) (sym q.layout)

-- codes and what is told of them are equal where their parts are
pub code-same : (c d : CodeView) → c.params ≡ d.params → c.list ≡ d.list → c ≡ d
code-same c d e f =
    let params = ap (λ (p : ℕ). record { params = p; list = c.list }) e in
    let list = ap (λ (l : List Instr). record { params = d.params; list = l }) f in
    params ∙ list

pub tagged-same : (t u : TaggedView) → t.code ≡ u.code → t.exceptions ≡ u.exceptions → t.starts ≡ u.starts → t ≡ u
tagged-same t u e f g =
    let code = ap (λ (c : CodeView). record { code = c; exceptions = t.exceptions; starts = t.starts }) e in
    let exceptions = ap (λ (x : List (ℕ × List ℕ)). record { code = u.code; exceptions = x; starts = t.starts }) f in
    let starts = ap (λ (s : List ℕ). record { code = u.code; exceptions = u.exceptions; starts = s }) g in
    code ∙ exceptions ∙ starts

-- bytes are one object
pub object-one : (bytes : List ℕ) (o p : Object) → IsObject bytes o → IsObject bytes p → o ≡ p
object-one bytes (One c) (One d) o q =
    let few = o.code.few in
    let few' = q.code.few in
    let same = header-same 49 49 c.params d.params (length c.list) (length d.list) o.rows q.rows (omega arith) (omega arith) (sym o.layout ∙ q.layout) in
    let rows = each-one IsRow row-code c.list d.list o.rows q.rows [] [] same.2 o.each q.each (ap (λ x. x ++ []) same.3) in
    ap (λ (x : CodeView). One x) (code-same c d same.1 rows.0)
object-one bytes (One c) (Two t) o q =
    let few = o.code.few in
    let few' = q.code.few in
    let same = header-same 49 50 c.params t.code.params (length c.list) (length t.code.list) o.rows _ (omega arith) (omega arith) (sym o.layout ∙ q.layout) in
    absurd (omega (arith, same.0))
object-one bytes (Two t) (One c) o q =
    let few = o.code.few in
    let few' = q.code.few in
    let same = header-same 50 49 t.code.params c.params (length t.code.list) (length c.list) _ q.rows (omega arith) (omega arith) (sym o.layout ∙ q.layout) in
    absurd (omega (arith, same.0))
object-one bytes (Two t) (Two u) o q =
    let few = o.code.few in
    let few' = q.code.few in
    let less = o.tagged.exceptions in
    let less' = q.tagged.exceptions in
    let most = o.tagged.starts in
    let most' = q.tagged.starts in
    let n = length u.code.list in
    let same = header-same 50 50 t.code.params u.code.params (length t.code.list) n _ _ (omega arith) (omega arith) (sym o.layout ∙ q.layout) in
    let x = number-same (length t.exceptions) (length u.exceptions) _ _ (omega arith) (omega arith) same.3 in
    let k = number-same (length t.starts) (length u.starts) _ _ (omega arith) (omega arith) x.1 in
    let rows = each-one IsRow row-code t.code.list u.code.list o.rows q.rows (o.exceptions ++ o.starts) (q.exceptions ++ q.starts) same.2 o.each_row q.each_row k.1 in
    let exceptions = each-one IsException exception-code t.exceptions u.exceptions o.exceptions q.exceptions o.starts q.starts x.0 o.each_exception q.each_exception rows.1 in
    let mine : AreEach (IsNumber n) t.starts o.starts = subst (λ m. AreEach (IsNumber m) t.starts o.starts) same.2 o.each_start in
    let starts = each-one (IsNumber n) (number-code n (omega arith)) t.starts u.starts o.starts q.starts [] [] k.0 mine q.each_start (ap (λ s. s ++ []) exceptions.1) in
    ap (λ (v : TaggedView). Two v) (tagged-same t u (code-same t.code u.code same.1 rows.0) exceptions.0 starts.0)
