-- What the definitions give of a short program.
use Rattle.std.specs.Prelude.{◌≡◌, ℕ, List, [], ◌∷◌, codes}
use Rattle.nv_base.specs.declared.outcome.Outcome.TheVariants.{Ended, Going}
use Rattle.nv_base.specs.declared.outcome.Write.{Write}
use Rattle.nv_base.specs.declared.term.Mem.TheVariants.{Sram}
use Rattle.nv_base.specs.Memories.{Memories}
use Rattle.nv_ast.specs.declared.token.Span.{Span}
use Rattle.nv_ast.specs.declared.tree.Op.TheVariants.{Add, Lt}
use Rattle.nv_ast.specs.Tree.{ProgramTree, DeclTree, ExceptionDecl, GroupDecl, no_named_types, named_type_and, WordType, no_types, type_and, pattern_and, no_patterns, NamePattern, Tree, NumberTree, VarTree, BinaryTree, CallTree, RaiseTree, IfTree, TryTree, BlockTree, Trees, no_trees, tree_and, StoreStatement, no_statements, statement_and}
use Rattle.nv_meaning_values.specs.Running.{Made}
use Rattle.nv_meaning.specs.Meaning.{source, traced}

-- meanings don't ask where a tree stands in the text
abbrev pub nowhere : Span
nowhere = record { first = 0; after = 0 }

abbrev pub variable : List ℕ → Tree
variable x = VarTree nowhere x

abbrev pub number : ℕ → Tree
number n = NumberTree nowhere n

abbrev pub one : Tree → Trees
one e = tree_and e no_trees

-- a function of one word, whose result is a word
abbrev pub fun_of : List ℕ → List ℕ → Tree → DeclTree
fun_of name x body = GroupDecl (record { name = name; params = named_type_and x (WordType 1) no_named_types; result = WordType 1; body = body; span = nowhere } ∷ [])

-- exception found[word];
-- fun seek[i: word]: word { if i < 2 { sram(i) <- i + 7; seek[i + 1] } else raise found[i] }
-- fun main[n: word]: word { try seek[n] handle found[k] k + 40 }
abbrev pub seeking : ProgramTree
seeking = record {
  decls =
      ExceptionDecl (codes "found") (type_and (WordType 1) no_types) nowhere
      ∷ fun_of (codes "seek") (codes "i") (IfTree nowhere (BinaryTree nowhere Lt (variable (codes "i")) (number 2))
      (BlockTree nowhere (statement_and (StoreStatement nowhere Sram (variable (codes "i")) (BinaryTree nowhere Add (variable (codes "i")) (number 7))) no_statements)
      (CallTree nowhere (codes "seek") (one (BinaryTree nowhere Add (variable (codes "i")) (number 1)))))
      (RaiseTree nowhere (codes "found") (one (variable (codes "i")))))
      ∷ fun_of (codes "main") (codes "n") (TryTree nowhere (CallTree nowhere (codes "seek") (one (variable (codes "n")))) (codes "found") (pattern_and (NamePattern (codes "k")) no_patterns)
      (BinaryTree nowhere Add (variable (codes "k")) (number 40)))
      ∷ [];
  length = 0;
}

-- memories with two words of SRAM, and these of scratch
abbrev pub two_words : ℕ → ℕ → List ℕ → Memories
two_words a b scratch = record { sram = a ∷ b ∷ []; sdram = []; scratch = scratch }

abbrev pub stored_there : ℕ → ℕ → Write
stored_there at w = record { mem = Sram; at = at; words = w ∷ [] }

-- from 0 on it makes three calls, stores twice and comes to its handler; with two calls it is still going, with both stores done
pub record Seeking : Type 0 where
  pub handled : (scratch : List ℕ) → source seeking (0 ∷ []) (two_words 0 0 scratch) 3 ≡ record { outcome = Ended (42 ∷ []); packet = two_words 7 8 scratch; writes = stored_there 0 7 ∷ stored_there 1 8 ∷ [] }
  pub going : (scratch : List ℕ) → source seeking (0 ∷ []) (two_words 0 0 scratch) 2 ≡ record { outcome = Going; packet = two_words 7 8 scratch; writes = stored_there 0 7 ∷ stored_there 1 8 ∷ [] }

-- fun put[x: word]: word { sram(x) <- 7; x }
-- fun main[]: word { put[1] }
abbrev pub putting : ProgramTree
putting = record {
  decls =
      fun_of (codes "put") (codes "x") (BlockTree nowhere (statement_and (StoreStatement nowhere Sram (variable (codes "x")) (number 7)) no_statements) (variable (codes "x")))
      ∷ GroupDecl (record { name = codes "main"; params = no_named_types; result = WordType 1; body = CallTree nowhere (codes "put") (one (number 1)); span = nowhere } ∷ [])
      ∷ [];
  length = 0;
}

-- a write in a function that main calls
abbrev pub written_in : List ℕ → Write → Made
written_in f w = record { write = w; span = nowhere; chain = codes "main" ∷ f ∷ [] }

-- a call of another group joins the calls in progress, also as main's last act; one of the own group takes its caller's place
pub record Tracing : Type 0 where
  pub joined : (scratch : List ℕ) → traced putting [] (two_words 0 0 scratch) 1 ≡ record { outcome = Ended (1 ∷ []); packet = two_words 0 7 scratch; writes = written_in (codes "put") (stored_there 1 7) ∷ [] }
  pub replaced : (scratch : List ℕ) → (traced seeking (0 ∷ []) (two_words 0 0 scratch) 2).writes ≡ written_in (codes "seek") (stored_there 0 7) ∷ written_in (codes "seek") (stored_there 1 8) ∷ []
