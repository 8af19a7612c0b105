-- What a command does where there is no memory to read the words.
use Rattle.std.proofs.Common.{◌≡◌, ℕ, Bool, true, false, List, Option, Some, None, Result, Ok, Err, refl, sym, ap, ◌∙◌, subst, inl, inr}
use Rattle.std.specs.Option.{IfSome}
use Rattle.sec_read.specs.FileWords.{Named}
use Rattle.command_line.specs.declared.command.Command as command
use Rattle.command_line.specs.declared.command.Command.TheVariants as commands
use Rattle.reports.specs.Report.{Answers}
use Rattle.agent_main.specs.Words.{serves_doors}
use Rattle.agent_main.specs.Commands.{Around, Ran}
use Rattle.agent_main.specs.Listings.{listing_under}
use Rattle.agent_main.proofs.Tables.{exits_unread}

pub told_all : {A : Type 0} (content : Option A) (F : A → Type 0) → ((a : A) → F a) → IfSome content F
told_all None F f = tt
told_all (Some a) F f = f a

answers_out : (told : Result (List ℕ) (List ℕ)) (before : ℕ) (held : Option (List ℕ)) → Answers 6 told before before held held
answers_out (Ok text) before held = inr (inr (refl, refl))
answers_out (Err line) before held = inr (inr (refl, refl))

pub ran_out : (content : Option Named) (c : command.Command) (a : Around) → Ran content c 6 a a
ran_out content c a = record {
  usage = λ is. inr (refl, refl);
  taken = λ is. absurd (cc is);
  help = λ is. inr (refl, refl);
  version = λ is. inr (refl, refl);
  checked_all = told_all content _ (λ told name is. answers_out _ a.file_faults a.held);
  refused = told_all content _ (λ told name line is refused. (inr (inr (refl, refl)), refl));
  served = exits_unread content (λ name. c ≡ commands.Once name) (λ told name rules. listing_under told name ≡ Ok rules) _ a.left a.ends a.held;
  replayed = told_all a.left _ (λ text plain name is. inl (inr (refl, refl)));
  unloaded = told_all content _ (λ told plain name fault is refused. refl);
  generated = λ seed count is. inr (refl, refl);
  untouched = λ is. refl;
  unread = λ is other. refl;
  once_alone = λ is. absurd (cc is);
  no_door = λ is. cc is;
  read_fault = λ is. absurd (cc is);
  write_fault = λ is. absurd (cc is);
}

pub ran_as : (content : Option Named) (c d : command.Command) (result : ℕ) (a b : Around) → c ≡ d → Ran content c result a b → Ran content d result a b
ran_as content c d result a b is ran = subst (λ k. Ran content k result a b) is ran

pub told_weaker : {A : Type 0} (content : Option A) (F G : A → Type 0) → ((a : A) → F a → G a) → IfSome content F → IfSome content G
told_weaker None F G f is = tt
told_weaker (Some a) F G f is = f a is

both_ways : (b : Bool) → b ≡ true → b ≡ false → ⊥
both_ways b is other = cc (sym is ∙ other)

pub not_serve : (c d : command.Command) (name : List ℕ) → c ≡ d → serves_doors d ≡ false → c ≡ commands.Serve name → ⊥
not_serve c d name same other is = both_ways (serves_doors d) (ap serves_doors (sym same ∙ is)) other
