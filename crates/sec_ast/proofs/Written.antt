-- Lines, settings and links as they are put together.
use Rattle.std.proofs.Common.{◌≡◌, ℕ, ◌≤◌, Bool, List, [], ◌∷◌, ◌++◌, length, map, take, codes, decimal, sym, ap, ◌∙◌, append-nil, append_assoc, arith, Result, Ok, Err}
use Rattle.std.specs.Prelude.{OnOk}
use Rattle.std.specs.Borrow.{Bor}
use Rattle.std.specs.List.{flat_map, join_with_byte}
use Rattle.std.proofs.lemmas.List.{take_all}
use Rattle.std.proofs.lemmas.List.Folds.{flat_map-map}
use Rattle.sec_ast.specs.declared.link.Link.{Link}
use Rattle.sec_ast.specs.declared.listing.Listing.{Listing}
use Rattle.sec_ast.specs.Print.{limit_action, setting, settings_text}
use Rattle.sec_ast.specs.PrintActions.{ctl_text, if_set, link_pieces, setvar_text, switch_text, transform_text}
use Rattle.sec_ast.specs.PrintRules.{is_more, link_line, lines_behind}
use Rattle.sec_ast.specs.PrintTexts.{line_of, spread}
use Rattle.sec_ast.specs.Settings.{engine_name}
use Rattle.sec_ast.proofs.Turns.{two}

pub line_end : {T E : Type 0} → (result : Result T E) (before name out new : List ℕ) (words : List (Bor (List ℕ))) (i : ℕ) → length words ≤ i
    → out ≡ (before ++ name) ++ flat_map (λ word. spread word.now) (take i words) → OnOk result (new ≡ out ++ codes "\n")
    → OnOk result (new ≡ before ++ line_of name (map (λ word. word.now) words))
unfolding line_of
line_end (Err x) before name out new words i past is more = tt
line_end (Ok x) before name out new words i past is more =
    more ∙ ap (λ (l : List ℕ). l ++ codes "\n")
    (is ∙ ap (λ (l : List (Bor (List ℕ))). (before ++ name) ++ flat_map (λ word. spread word.now) l) (take_all i words past)
    ∙ ap (λ (l : List ℕ). (before ++ name) ++ l) (sym (flat_map-map spread (λ word. word.now) words)))
    ∙ ap (λ (l : List ℕ). l ++ codes "\n") (append_assoc before name (flat_map spread (map (λ word. word.now) words)))
    ∙ append_assoc before (name ++ flat_map spread (map (λ word. word.now) words)) (codes "\n")

pub settings_are : {T E : Type 0} → (result : Result T E) (listing : Listing) (engine access action response before a b c d e : List ℕ)
    → engine ≡ engine_name listing.engine → access ≡ switch_text listing.request_body
    → action ≡ limit_action listing.limit_reject → response ≡ switch_text listing.response_body
    → a ≡ before ++ setting (codes "SecRuleEngine") engine → b ≡ a ++ setting (codes "SecRequestBodyAccess") access
    → c ≡ b ++ setting (codes "SecRequestBodyLimit") (decimal listing.request_limit) → d ≡ c ++ setting (codes "SecRequestBodyLimitAction") action
    → OnOk result (e ≡ d ++ setting (codes "SecResponseBodyAccess") response) → OnOk result (e ≡ before ++ settings_text listing)
unfolding settings_text
settings_are (Err x) listing engine access action response before a b c d e engine_is access_is action_is response_is a_is b_is c_is d_is e_is = tt
settings_are (Ok x) listing engine access action response before a b c d e engine_is access_is action_is response_is a_is b_is c_is d_is e_is =
    rw (sym engine_is, sym access_is, sym action_is, sym response_is)
    (two before d e _ _ (two before c d _ _ (two before b c _ _ (two before a b _ _ a_is b_is) c_is) d_is) e_is)

-- one link's line more
pub line_turn : (out new whole : List ℕ) (pieces none : List (List ℕ)) (link : Link) (rest left : List Link) (follows : Bool)
    → left ≡ link ∷ rest → follows ≡ is_more rest → none ≡ [] → new ≡ out ++ link_line link (join_with_byte 44 (pieces ++ link_pieces link follows))
    → out ++ lines_behind pieces left ≡ whole → new ++ lines_behind none rest ≡ whole
unfolding lines_behind
line_turn out new whole pieces none link rest left follows left_is follows_is none_is new_is before =
    rw (new_is, follows_is, none_is, append_assoc) (rw left_is at before)

pub link_end : {T E : Type 0} → (link : Link) (follows : Bool) (result : Result T E) (p a b c d e f : List (List ℕ))
    → a ≡ p ++ map transform_text link.transforms → b ≡ a ++ if_set (codes "capture") link.capture → c ≡ b ++ if_set (codes "multiMatch") link.multi
    → d ≡ c ++ map setvar_text link.setvars → e ≡ d ++ map ctl_text link.ctls → OnOk result (f ≡ e ++ if_set (codes "chain") follows)
    → OnOk result (f ≡ p ++ link_pieces link follows)
unfolding link_pieces
link_end link follows (Err x) p a b c d e f a_is b_is c_is d_is e_is f_is = tt
link_end link follows (Ok x) p a b c d e f a_is b_is c_is d_is e_is f_is =
    two p e f _ _ (two p d e _ _ (two p c d _ _ (two p b c _ _ (two p a b _ _ a_is b_is) c_is) d_is) e_is) f_is

pub lines_end : (out whole : List ℕ) (pieces : List (List ℕ)) (left : List Link) → length left ≡ 0 → out ++ lines_behind pieces left ≡ whole → out ≡ whole
unfolding lines_behind
lines_end out whole pieces [] none before = sym (append-nil out) ∙ before
lines_end out whole pieces (link ∷ links) some before = absurd (omega (arith, some))
