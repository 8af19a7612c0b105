use Rattle.sec_round_trip.specs.Directives.{directives_of}
use Rattle.sec_round_trip.proofs.Directives.{all_fit}
use Rattle.sec_round_trip.proofs.LinkTexts.{link_does}
use Rattle.sec_round_trip.proofs.ListingTexts.{listing_again, words_each}
use Rattle.sec_round_trip.proofs.RuleTexts.{rule_does}
use Rattle.sec_round_trip.proofs.SettingTexts.{settings_do}
use Rattle.sec_round_trip.proofs.readings.printed_listings_are_read.Goals as goal

pub returns : goal.returns
returns c =
    listing_again (λ l is. c.lines_of_a_printed_listing.ensures.lines l is.words)
    (λ l is. words_each c.words_of_a_printed_line.ensures (directives_of l) (all_fit l) is.words)
    (λ files file n total l limit. settings_do files file c.engine_of_its_name.ensures n total l limit)
    (λ files file settings total. rule_does files file settings total
    (link_does files file c.printed_targets_are_read.ensures c.printed_operators_are_read.ensures c.printed_want_of_actions_is_read.ensures)
    c.printed_rule_actions_are_read.ensures c.printed_link_actions_are_read.ensures)
