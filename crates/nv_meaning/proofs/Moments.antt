-- From one moment of the interpreter's work to a later one.
use Rattle.std.proofs.Common.{◌≡◌, ◌≤◌, List, [], ◌++◌, refl, sym, ap, ◌∙◌, subst, append_assoc, append-nil, arith}
use Rattle.std.proofs.lemmas.List.Elements.{filter-append}
use Rattle.nv_base.specs.Log.{noted_all}
use Rattle.nv_base.specs.Meanings.{source_writes, is_source_write, left_by}
use Rattle.nv_base.proofs.LogLemmas.{noted-append}
use Rattle.nv_base.proofs.MemoryLemmas.{left-append}
use Rattle.nv_meaning_values.specs.Notes.{traced_all, source_made}
use Rattle.nv_meaning_values.proofs.Trails.{traced-append}
use Rattle.nv_meaning_values.specs.Running.{Made, plain, Running}
use Rattle.nv_meaning.specs.Meaning.{Declared, Calls, calls_within}
use Rattle.nv_meaning.specs.inner.Ran.{At, running, Wrote, Ran}
use Rattle.nv_meaning.proofs.Grows.{Growing, calls-grow, plain-append}

pub wrote-nothing : (a : At) → Wrote a a []
wrote-nothing a = record { calls = omega arith; packet = refl; log = refl; trail = refl }

pub wrote-then : (a b e : At) (xs ys : List Made) → Wrote a b xs → Wrote b e ys → Wrote a e (xs ++ ys)
wrote-then a b e xs ys p q = record {
  calls = let h : b.calls ≤ a.calls = p.calls in let k : e.calls ≤ b.calls = q.calls in omega arith;
  packet = q.packet ∙ ap (left_by (plain ys)) p.packet ∙ sym (left-append (plain xs) (plain ys) a.packet) ∙ ap (λ ws. left_by ws a.packet) (sym (plain-append xs ys));
  log = q.log ∙ ap (λ l. noted_all l (source_writes (plain ys))) p.log ∙ sym (noted-append (source_writes (plain xs)) (source_writes (plain ys)) a.log.log)
      ∙ ap (noted_all a.log.log) (sym (filter-append (λ w. is_source_write w.mem w.at) (plain xs) (plain ys)) ∙ ap source_writes (sym (plain-append xs ys)));
  trail = q.trail ∙ ap (λ t. traced_all t (source_made ys)) p.trail ∙ sym (traced-append (source_made xs) (source_made ys) a.log.trail)
      ∙ ap (traced_all a.log.trail) (sym (filter-append (λ m. is_source_write m.write.mem m.write.at) xs ys));
}

-- nothing has happened
pub ran-here : (d : Declared) (a : At) (R : Calls → Running → Running → Type 0) → ((call : Calls) → Growing call → (x : Running) → x.packet ≡ a.packet → R call x x) → Ran d a a R
ran-here d a R h = record {
  run = λ depth le c knows before. record {
    wrote = [];
    change = wrote-nothing a;
    knows = knows;
    comes = subst (λ ms. R (calls_within depth d) (running a c before) (running a c ms)) (sym (append-nil before)) (h (calls_within depth d) (calls-grow depth d) (running a c before) refl);
  };
}

-- what follows from what happened
pub ran-as : (d : Declared) (a b : At) (P R : Calls → Running → Running → Type 0) → ((call : Calls) → Growing call → (x y : Running) → y.packet ≡ b.packet → P call x y → R call x y) → Ran d a b P → Ran d a b R
ran-as d a b P R h r = record {
  run = λ depth le c knows before.
      let m = r.run depth le c knows before in
      record { wrote = m.wrote; change = m.change; knows = m.knows; comes = h (calls_within depth d) (calls-grow depth d) (running a c before) (running b c (before ++ m.wrote)) refl m.comes };
}

-- one thing after another
pub ran-then : (d : Declared) (a b e : At) (P Q R : Calls → Running → Running → Type 0) → ((call : Calls) → Growing call → (x y z : Running) → P call x y → Q call y z → R call x z) → Ran d a b P → Ran d b e Q → Ran d a e R
ran-then d a b e P Q R h r s = record {
  run = λ depth le c knows before.
      let m = r.run depth le c knows before in
      let fewer : b.calls ≤ a.calls = m.change.calls in
      let enough : b.calls ≤ depth = omega arith in
      let n = s.run depth enough c m.knows (before ++ m.wrote) in
      record {
        wrote = m.wrote ++ n.wrote;
        change = wrote-then a b e m.wrote n.wrote m.change n.change;
        knows = n.knows;
        comes = subst (λ ms. R (calls_within depth d) (running a c before) (running e c ms)) (append_assoc before m.wrote n.wrote)
            (h (calls_within depth d) (calls-grow depth d) (running a c before) (running b c (before ++ m.wrote)) (running e c ((before ++ m.wrote) ++ n.wrote)) m.comes n.comes);
      };
}
