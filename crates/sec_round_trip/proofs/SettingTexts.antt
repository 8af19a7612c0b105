-- Markers and settings are read from their lines.
use Rattle.std.proofs.Common.{◌≡◌, ℕ, ◌≤◌, Bool, true, false, List, [], ◌∷◌, ◌++◌, Option, Some, None, refl, ◌∙◌, arith, codes, decimal}
use Rattle.sec_ast.specs.Print.{limit_action}
use Rattle.sec_ast.specs.PrintActions.{switch_text}
use Rattle.sec_ast.specs.Settings.{engine_name, engine_named}
use Rattle.sec_ast.specs.declared.listing.Item.{Item}
use Rattle.sec_ast.specs.declared.listing.Item.TheVariants as items
use Rattle.sec_ast.specs.declared.listing.Listing.{Listing}
use Rattle.sec_ast.specs.declared.settings.Engine.{Engine}
use Rattle.sec_parts.specs.Changes.{switch_named}
use Rattle.sec_parts.specs.Numbers.{number_in}
use Rattle.sec_read.specs.declared.directive.Directive.TheVariants as directives
use Rattle.sec_read.specs.declared.modes.PatternMode.TheVariants as modes
use Rattle.sec_read.specs.declared.reading.Reading.{Reading}
use Rattle.sec_read.specs.declared.reading.Unfinished.{Unfinished}
use Rattle.sec_read.specs.declared.settings.Setting.{Setting}
use Rattle.sec_read.specs.declared.settings.Setting.TheVariants as kinds
use Rattle.sec_read.specs.declared.settings.Settings.{Settings}
use Rattle.sec_read.specs.Defaults.{first_defaults}
use Rattle.sec_read.specs.Directives.{directive_named, directive_of, is_accepted, is_left_out}
use Rattle.sec_read.specs.FileWords.{Named}
use Rattle.sec_read.specs.Removals.{no_removals}
use Rattle.sec_read.specs.Settings.{first_settings, rejection_named, with_setting}
use Rattle.sec_round_trip.specs.Directives.{settings_of}
use Rattle.sec_round_trip.proofs.DecimalTexts.{number_again}
use Rattle.sec_round_trip.proofs.LineSteps.{Do, Does, by_name}

-- what was read of a printed text, in which no directive sets defaults or a mode, or removes rules
abbrev pub so_far : Settings → ℕ → List Item → Option Unfinished → Reading
so_far settings total list unfinished =
    record { items = list; unfinished = unfinished; defaults = first_defaults; settings = settings; mode = modes.Unicode; removals = no_removals; total = total }

-- those of a listing
abbrev pub settings_in : Listing → Settings
settings_in listing = record {
  engine = listing.engine;
  request_body = listing.request_body;
  request_limit = listing.request_limit;
  limit_reject = listing.limit_reject;
  response_body = listing.response_body;
}

module _ (files : Named) (file : List ℕ) where
  pub marker_does : (n total : ℕ) (settings : Settings) (list : List Item) (label : List ℕ)
      → Does files file n (codes "SecMarker", label ∷ []) (so_far settings total list None) (so_far settings total (list ++ items.Marker label ∷ []) None)
  unfolding is_left_out is_accepted directive_named
  marker_does n total settings list label =
      by_name files file n (codes "SecMarker") (label ∷ []) directives.SecMarker (so_far settings total list None) refl refl ∙ refl

  set_does : (n total : ℕ) (name word : List ℕ) (kind : Setting) (before after : Settings) → is_left_out name ≡ false → directive_of name ≡ Some (directives.Set kind) → with_setting kind word before ≡ Some after
      → Does files file n (name, word ∷ []) (so_far before total [] None) (so_far after total [] None)
  set_does n total name word kind before after taken is sets =
      by_name files file n name (word ∷ []) (directives.Set kind) (so_far before total [] None) taken is ∙ rw sets refl

  rejection_is : (rejects : Bool) → rejection_named (limit_action rejects) ≡ Some rejects
  unfolding rejection_named
  rejection_is true = refl
  rejection_is false = refl

  switch_is : (is_on : Bool) → switch_named (switch_text is_on) ≡ Some is_on
  unfolding switch_named
  switch_is true = refl
  switch_is false = refl

  module _ (engines : (engine : Engine) → engine_named (engine_name engine) ≡ Some engine) where
    pub settings_do : (n total : ℕ) (listing : Listing) → (1 ≤ listing.request_limit) × (listing.request_limit ≤ 1073741824)
        → Do files file n (settings_of listing) (so_far first_settings total [] None) (so_far (settings_in listing) total [] None)
    unfolding is_left_out is_accepted directive_named
    settings_do n total listing limit =
        let s1 : Settings = record first_settings { engine = listing.engine } in
        let s2 : Settings = record s1 { request_body = listing.request_body } in
        let s3 : Settings = record s2 { request_limit = listing.request_limit } in
        let s4 : Settings = record s3 { limit_reject = listing.limit_reject } in
        let s5 : Settings = settings_in listing in
        let number : number_in 1 1073741824 (decimal listing.request_limit) ≡ Some listing.request_limit = number_again 1 1073741824 listing.request_limit limit.0 limit.1 (omega arith) in (
          so_far s1 total [] None,
          set_does n total (codes "SecRuleEngine") (engine_name listing.engine) kinds.Engine first_settings s1 refl refl (rw (engines listing.engine) refl),
          (
            so_far s2 total [] None,
            set_does _ total (codes "SecRequestBodyAccess") (switch_text listing.request_body) kinds.RequestBodyAccess s1 s2 refl refl (rw (switch_is listing.request_body) refl),
            (
              so_far s3 total [] None,
              set_does _ total (codes "SecRequestBodyLimit") (decimal listing.request_limit) kinds.RequestBodyLimit s2 s3 refl refl (rw number refl),
              (
                so_far s4 total [] None,
                set_does _ total (codes "SecRequestBodyLimitAction") (limit_action listing.limit_reject) kinds.RequestBodyLimitAction s3 s4 refl refl (rw (rejection_is listing.limit_reject) refl),
                (
                  so_far s5 total [] None,
                  set_does _ total (codes "SecResponseBodyAccess") (switch_text listing.response_body) kinds.ResponseBodyAccess s4 s5 refl refl (rw (switch_is listing.response_body) refl),
                  refl,
                ),
              ),
            ),
          ),
        )
