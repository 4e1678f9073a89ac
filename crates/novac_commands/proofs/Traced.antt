-- What the pieces of the command `trace` come to.
use Rattle.std.proofs.Common.{◌≡◌, ◌≢◌, ℕ, ◌⊎◌, inl, inr, List, Option, Result, Ok, Err, IfOk, IfErr, length, map, take, refl, sym, ap, ◌∙◌, subst}
use Rattle.nv_base.specs.Log.{Log}
use Rattle.nv_base.specs.Memories.{Memories}
use Rattle.nv_base.specs.declared.outcome.Write.{Write}
use Rattle.nv_ast.specs.Sizes.{main_words}
use Rattle.nv_ast.specs.Tree.{ProgramTree}
use Rattle.nv_meaning_values.specs.Running.{Made, plain}
use Rattle.nv_meaning_values.specs.Chains.{Kept, trail_of}
use Rattle.nv_memtext.specs.MemoryText.{Gives}
use Rattle.nv_memtext.proofs.ExactLemmas.{gives_one}
use Rattle.nv_trace.specs.TraceText.{shown, trace_text}
use Rattle.nv_trace.specs.Unlike.{AgreeAsFar, IsFirstUnlike}
use Rattle.nv_trace.proofs.FirstMade.{plain-kept}
use Rattle.uc_isa.specs.Code.{CodeView}
use Rattle.uc_isa.specs.Lawful.{IsLawful}
use Rattle.uc_object.specs.Object.{IsObject, code_of}
use Rattle.uc_object.specs.declared.object.Object.{Object}
use Rattle.nova_compile.specs.Sources.{IsTypedSource}
use Rattle.novac_words.specs.Lines.{IsUncaused}
use Rattle.novac_words.specs.declared.refusal.Refusal.{Refusal}
use Rattle.novac_words.specs.declared.reply.Reply.{Reply}
use Rattle.novac_words.specs.declared.refusal.Refusal.TheVariants.{TraceParams, TraceWrite}
use Rattle.novac_words.specs.declared.status.Status.TheVariants.{Done}
use Rattle.novac_machine.specs.Machine.{IsMemoryRefusedFor}
use Rattle.novac_commands.specs.Tracing.{IsCompared, IsTraced, CodeRefuses, ObjectRefuses, IsOtherFor, made_writes, code_writes}

-- the trace of the source and the log of the code, each of a memory text that was read for it
module _ (program : ProgramTree) (c : CodeView) (memory : List ℕ) (steps calls : ℕ) (trace : Kept) (log : Log) (p q : Memories) (args again : List ℕ) (given : Gives (main_words program) memory p args) (given_again : Gives (main_words program) memory q again)
    (is_trace : (trail_of trace).kept ≡ made_writes program calls args p) (is_log : log.kept ≡ code_writes c steps again q) where
  noted : log.kept ≡ code_writes c steps args p
  noted =
      let gives = gives_one (main_words program) memory q p again args given_again given in
      is_log ∙ ap (λ (a : List ℕ). code_writes c steps a q) gives.1 ∙ ap (λ (m : Memories). code_writes c steps args m) gives.0

  made : map (λ m. m.write) trace.kept ≡ plain (made_writes program calls args p)
  made = sym (plain-kept trace.chains trace.kept) ∙ ap plain is_trace

  -- they agree as far as both go
  pub compared : (text : List ℕ) (line : Option ℕ) (out : List ℕ) → c.params ≡ main_words program → AgreeAsFar (map (λ m. m.write) trace.kept) log.kept
      → out ≡ trace_text text (shown text line (take (length log.kept) (trail_of trace).kept)) → IsCompared program c text memory steps calls line Done out
  compared text line out params agree is_out = record {
    packet = p;
    arguments = args;
    given = given;
    params = params;
    agree = subst (λ (ws : List Write). AgreeAsFar (plain (made_writes program calls args p)) ws) noted (subst (λ (vs : List Write). AgreeAsFar vs log.kept) made agree);
    done = refl;
    prints =
        is_out
        ∙ ap (λ (ms : List Made). trace_text text (shown text line (take (length log.kept) ms))) is_trace
        ∙ ap (λ (ws : List Write). trace_text text (shown text line (take (length ws) (made_writes program calls args p)))) noted;
  }

  -- a write differs
  pub other-write : (e : Refusal) → c.params ≡ main_words program → (i : ℕ) × (e ≡ TraceWrite i) × IsFirstUnlike i (map (λ m. m.write) trace.kept) log.kept → IsUncaused e ⊎ CodeRefuses program memory steps calls c e
  other-write e params h =
      let other : IsOtherFor program c steps calls args p (TraceWrite h.0) = (
        params,
        subst (λ (ws : List Write). IsFirstUnlike h.0 (plain (made_writes program calls args p)) ws) noted (subst (λ (vs : List Write). IsFirstUnlike h.0 vs log.kept) made h.2),
      ) in
      inr (inr (p, args, given, subst (IsOtherFor program c steps calls args p) (sym h.1) other))

-- the memory text is refused
pub refused-memory : (program : ProgramTree) (c : CodeView) (memory : List ℕ) (steps calls : ℕ) (e : Refusal) → IsUncaused e ⊎ IsMemoryRefusedFor (main_words program) memory e → IsUncaused e ⊎ CodeRefuses program memory steps calls c e
refused-memory program c memory steps calls e (inl h) = inl h
refused-memory program c memory steps calls e (inr h) = inr (inl h)

-- the numbers of parameters differ
pub other-params : (program : ProgramTree) (c : CodeView) (memory : List ℕ) (steps calls a b : ℕ) (p : Memories) (args : List ℕ) (e : Refusal) → Gives (main_words program) memory p args → a ≡ c.params → b ≡ main_words program
    → (e ≡ TraceParams a b) × (a ≢ b) → IsUncaused e ⊎ CodeRefuses program memory steps calls c e
other-params program c memory steps calls a b p args e given is_a is_b h =
    inr (inr (p, args, given, subst (IsOtherFor program c steps calls args p) (sym h.0) (is_a, is_b, h.1)))

-- ---- of the object of lawful code
module _ (text bytes memory : List ℕ) (steps calls : ℕ) (line : Option ℕ) (program : ProgramTree) (o : Object) (c : CodeView) (is : c ≡ code_of o) (object : IsObject bytes o) (lawful : IsLawful c.list) where
  pub traced-by : (answer : Result Reply Refusal) → IsTypedSource text program → IfOk answer (λ r. IsCompared program c text memory steps calls line r.status r.text.items) → IfOk answer (λ r. IsTraced text bytes memory steps calls line r.status r.text.items)
  traced-by (Ok r) typed h = record {
    program = program;
    is_source = typed;
    o = o;
    object = object;
    lawful = subst (λ (x : CodeView). IsLawful x.list) is lawful;
    compared = subst (λ (x : CodeView). IsCompared program x text memory steps calls line r.status r.text.items) is h;
  }
  traced-by (Err e) typed h = tt

  refused-code : (e : Refusal) → IsUncaused e ⊎ CodeRefuses program memory steps calls c e → IsUncaused e ⊎ ObjectRefuses program bytes memory steps calls e
  refused-code e (inl h) = inl h
  refused-code e (inr h) = inr (inr (o, object, subst (λ (x : CodeView). IsLawful x.list × CodeRefuses program memory steps calls x e) is (lawful, h)))

  pub refused-by : (answer : Result Reply Refusal) → IfErr answer (λ e. IsUncaused e ⊎ CodeRefuses program memory steps calls c e) → IfErr answer (λ e. IsUncaused e ⊎ ObjectRefuses program bytes memory steps calls e)
  refused-by (Ok r) h = tt
  refused-by (Err e) h = refused-code e h
