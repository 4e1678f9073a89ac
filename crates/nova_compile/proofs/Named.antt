-- The exceptions that declarations declare, one declaration after another.
use Rattle.std.proofs.Common.{◌≡◌, ℕ, ◌+◌, ◌<◌, ◌≤◌, ◌^◌, List, [], ◌∷◌, ◌++◌, length, map, drop, get_or, append-nil, refl, sym, ap, ◌∙◌, arith}
use Rattle.std.specs.Prelude.{◌==◌, cond}
use Rattle.std.proofs.lemmas.List.{drop_all}
use Rattle.std.proofs.lemmas.List.Sums.{count_by-le-length, sum_by-take-drop}
use Rattle.nv_lines.specs.LineColumn.{line_at}
use Rattle.nv_ast.specs.declared.program.Program.{Program}
use Rattle.nv_ast.specs.declared.tree.Decl.{Decl}
use Rattle.nv_ast.specs.declared.tree.Decl.TheVariants.{Layout, Exception, Group}
use Rattle.nv_ast.specs.Exceptions.{exceptions}
use Rattle.nv_ast.specs.ProgramView.{decl_tree}
use Rattle.nv_ast.specs.Tree.{DeclTree}
use Rattle.nv_ast.proofs.Items.{next_item}
use Rattle.nv_text.specs.Limits.{source_limit}
use Rattle.nova_compile.specs.Naming.{exceptions_in}

-- a declaration further
pub exceptions-turn : (text : List ℕ) (decls : List Decl) (i : ℕ) (d : Decl) (now new whole : List (ℕ × List ℕ)) → i < length decls → d ≡ get_or decls i d
    → ((ds : List DeclTree) → new ++ exceptions_in text ds ≡ now ++ exceptions_in text (decl_tree d ∷ ds))
    → now ++ exceptions_in text (map decl_tree (drop i decls)) ≡ whole → new ++ exceptions_in text (map decl_tree (drop (i + 1) decls)) ≡ whole
exceptions-turn text decls i d now new whole h is step before =
    step (map decl_tree (drop (i + 1) decls)) ∙ ap (λ l. now ++ exceptions_in text (map decl_tree l)) (sym (next_item decls i d h is)) ∙ before

pub exceptions-done : (text : List ℕ) (decls : List Decl) (i : ℕ) (now whole : List (ℕ × List ℕ)) → length decls ≤ i → now ++ exceptions_in text (map decl_tree (drop i decls)) ≡ whole → now ≡ whole
exceptions-done text decls i now whole h before = sym (append-nil now) ∙ ap (λ l. now ++ exceptions_in text (map decl_tree l)) (sym (drop_all i decls h)) ∙ before

-- there are as many as a program counts
exceptions-counted : (text : List ℕ) (ds : List Decl) → length (exceptions_in text (map decl_tree ds)) ≡ exceptions ds
exceptions-counted text [] = refl
exceptions-counted text (Layout name l s ∷ ds) = exceptions-counted text ds
exceptions-counted text (Exception name types s ∷ ds) = let ih = exceptions-counted text ds in omega (arith, ih)
exceptions-counted text (Group functions ∷ ds) = exceptions-counted text ds

pub exceptions-few : (text : List ℕ) (p : Program) (list : List (ℕ × List ℕ)) → list ≡ exceptions_in text (map decl_tree p.decls.items) → length list < 2 ^ 16
exceptions-few text p list e =
    let same = ap (λ l. length l) e ∙ exceptions-counted text p.decls.items in
    omega (arith, same, p.numbered)

-- a source has fewer lines than fit in 32 bits
pub line-low : (text : List ℕ) (at line : ℕ) → length text ≤ source_limit → line ≡ line_at text at → line < 2 ^ 32
line-low text at line short is =
    let a = count_by-le-length (λ byte. byte == 10) text in
    let b = sum_by-take-drop (λ byte. cond (byte == 10) 1 0) text at in
    omega (arith, a, b, short, is)
