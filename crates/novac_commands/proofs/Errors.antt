-- The error of a call that failed, as the error of its caller.
use Rattle.std.proofs.Common.{Result, Ok, Err, IfErr, sym, subst}
use Rattle.novac_commands.specs.inner.Replies.{IsShown}
use Rattle.novac_words.specs.declared.refusal.Refusal.{Refusal}
use Rattle.novac_words.specs.declared.reply.Reply.{Reply}
use Rattle.novac_machine.specs.declared.save.Made.{Made}

pub shown-refused : (a : Result Reply Refusal) (m : Result Made Refusal) (P : Refusal → Type 0) → IsShown a m → IfErr a P → IfErr m P
shown-refused (Ok r) (Ok m) P s h = tt
shown-refused (Ok r) (Err e) P s h = absurd s
shown-refused (Err e) (Ok m) P s h = tt
shown-refused (Err e) (Err f) P s h = subst P (sym s) h
