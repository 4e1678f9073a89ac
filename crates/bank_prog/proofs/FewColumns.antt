-- The columns of the program of the banks, family by family.
use Rattle.std.proofs.Common.{◌≡◌, ℕ, zero, suc, ◌+◌, ◌*◌, ◌≤◌, Bool, true, false, List, [], ◌∷◌, ◌++◌, length, map, filter, arith}
use Rattle.std.specs.List.{flat_map}
use Rattle.std.proofs.lemmas.List.{length-append, length-map}
use Rattle.ssu_ir.specs.Measures.{size}
use Rattle.ssu_ir.specs.Points.{points}
use Rattle.ssu_ir.specs.Tree.{Label}
use Rattle.ssu_ir.proofs.PointLemmas.{total-from}
use Rattle.place_plan.specs.Uses.{Access, accesses, ValueOrigin, Parameter, Result, Fetched, Value, values, Role, Operand, Address, Written, Argument, Ending, Use, uses, is_used}
use Rattle.place_plan.specs.Fits.{is_result}
use Rattle.bank_prog_form.specs.declared.column.Bank.TheVariants.{A, B, M}
use Rattle.bank_prog_form.specs.declared.column.Column.{Column}
use Rattle.bank_prog_form.specs.declared.column.Column.TheVariants.{DirectWrite, Fill, Stay, EarlyWrite, First, Serve, ReadVia, WriteVia}
use Rattle.bank_prog_form.specs.Columns.{Priced, origin_of, is_fetched, place_words, beginnings, role_beginnings, origin_beginnings, origin_defs, def_columns, dir_columns, fill_columns, stay_columns, ear_columns, first_columns, services, has_bank, srv_columns, for_eight, pas_l_columns, pas_s_columns, all_dirs, all_stays, all_ears, all_pas_l, all_pas_s, priced, columns}
use Rattle.bank_prog.proofs.Lengths.{kept-few, if-few, flat-few, points-few, values-few, uses-few, begin-few, accesses-few, parts-few}

-- ---- where an access may begin

pub words-few : (n : ℕ) (r : Role) → length (role_beginnings n r) ≤ 8
words-few n Operand = omega arith
words-few n Address = omega arith
words-few n (Written m i) = begin-few m n
words-few n (Argument l i) = omega arith
words-few n (Ending i) = omega arith

pub fetches-few : (n : ℕ) (s : ValueOrigin) → length (origin_beginnings n s) ≤ 8
fetches-few n (Parameter l i) = omega arith
fetches-few n Result = omega arith
fetches-few n (Fetched m i) = begin-few m n

-- as many as those
pub map-few : {X Y : Type 0} (n : ℕ) (f : X → Y) (xs : List X) → length xs ≤ n → length (map f xs) ≤ n
map-few n f xs h = let e = length-map xs f in omega (arith, e, h)

-- ---- a value, a use, an access

origin-few : (x : ℕ) (s : ValueOrigin) → length (origin_defs x s) ≤ 3
origin-few x (Parameter zero i) = omega arith
origin-few x (Parameter (suc l) i) = omega arith
origin-few x Result = omega arith
origin-few x (Fetched m i) = omega arith

dir-few : (labels : List Label) (n : ℕ) (u : Use) → length (dir_columns labels n u) ≤ 8
dir-few labels n u =
    let rs = role_beginnings n u.role in
    let put : List Priced = map (λ f. (DirectWrite u.point u.operand f, 0)) rs in
    if-few 8 (is_result (origin_of labels u.value)) put (map-few 8 (λ f. (DirectWrite u.point u.operand f, 0)) rs (words-few n u.role))

fill-few : (labels : List Label) (v : Value) → length (fill_columns labels v) ≤ 3
fill-few labels v = if-few 3 (is_used labels v.var) ((Fill v.var A, 1) ∷ (Fill v.var B, 1) ∷ (Fill v.var M, 17) ∷ []) (omega arith)

stay-few : (labels : List Label) (n : ℕ) (v : Value) → length (stay_columns labels n v) ≤ 8
stay-few labels n v =
    let rs = origin_beginnings n v.origin in
    let kept : List Priced = map (λ f. (Stay v.var f, 0)) rs in
    if-few 8 (is_used labels v.var) kept (map-few 8 (λ f. (Stay v.var f, 0)) rs (fetches-few n v.origin))

ear-few : (n : ℕ) (u : Use) → length (ear_columns n u) ≤ 8
ear-few n u = map-few 8 (λ f. (EarlyWrite u.point u.operand f, 1)) (role_beginnings n u.role) (words-few n u.role)

first-few : (a : Access) → length (first_columns a) ≤ 8
first-few a = map-few 8 (λ f. (First a.point f, 0)) (beginnings a.mem a.words) (begin-few a.mem a.words)

pub services-few : (r : Role) → length (services r) ≤ 12
services-few Operand = omega arith
services-few Address = omega arith
services-few (Written m i) = omega arith
services-few (Argument l i) = omega arith
services-few (Ending i) = omega arith

srv-few : (labels : List Label) (u : Use) → length (srv_columns labels u) ≤ 12
srv-few labels u =
    let b = is_fetched (origin_of labels u.value) in
    let kept = filter (λ s. has_bank b s.from) (services u.role) in
    let a = kept-few (λ s. has_bank b s.from) (services u.role) in
    let c = services-few u.role in
    map-few 12 (λ s. (Serve u.point u.operand s.from s.at, s.cost)) kept (omega (arith, a, c))

eight-few : (b : Bool) (column : ℕ → Column) → length (for_eight b column) ≤ 8
eight-few true column = omega arith
eight-few false column = omega arith

-- ---- all

nine-parts : {X : Type 0} (a b c d e f g h i : List X)
    → length (a ++ (b ++ (c ++ (d ++ (e ++ (f ++ (g ++ (h ++ i)))))))) ≡ length a + (length b + (length c + (length d + (length e + (length f + (length g + (length h + length i)))))))
nine-parts a b c d e f g h i =
    let r1 = h ++ i in
    let r2 = g ++ r1 in
    let r3 = f ++ r2 in
    let r4 = e ++ r3 in
    let r5 = d ++ r4 in
    let r6 = c ++ r5 in
    let r7 = b ++ r6 in
    omega (arith, length-append h i, length-append g r1, length-append f r2, length-append e r3, length-append d r4, length-append c r5, length-append b r6, length-append a r7)

pub columns_few : (labels : List Label) → length (columns labels) ≤ 64 * size labels
columns_few labels =
    let ps = points labels in
    let vs = values labels in
    let us = uses labels in
    let all = length-map (priced labels) (λ (c : Priced). c.0) in
    let parts = nine-parts (flat_map def_columns vs) (all_dirs labels) (flat_map (fill_columns labels) vs) (all_stays labels) (all_ears labels)
    (flat_map first_columns (accesses labels)) (flat_map (srv_columns labels) us) (all_pas_l labels) (all_pas_s labels) in
    let defs = flat-few 3 def_columns vs (λ v. origin-few v.var v.origin) in
    let dirs = uses-few 8 (λ q. dir_columns labels (place_words q.place)) 0 ps (λ q. dir-few labels (place_words q.place)) in
    let fills = flat-few 3 (fill_columns labels) vs (fill-few labels) in
    let stays = values-few 8 (λ q. stay_columns labels (place_words q.place)) 0 ps (λ q. stay-few labels (place_words q.place)) in
    let ears = uses-few 8 (λ q. ear_columns (place_words q.place)) 0 ps (λ q. ear-few (place_words q.place)) in
    let firsts = flat-few 8 first_columns (accesses labels) first-few in
    let starts = accesses-few 0 ps in
    let srvs = flat-few 12 (srv_columns labels) us (srv-few labels) in
    let ls = points-few 8 pas_l_columns 0 ps (λ k q. eight-few _ (ReadVia k)) in
    let ss = points-few 8 (pas_s_columns labels) 0 ps (λ k q. eight-few _ (WriteVia k)) in
    let sizes = parts-few 0 ps in
    let whole = total-from 0 labels in
    omega (arith, all, parts, defs, dirs, fills, stays, ears, firsts, starts, srvs, ls, ss, sizes, whole)
