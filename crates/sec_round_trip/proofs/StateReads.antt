-- What a reading holds can be printed, line by line.
use Rattle.std.proofs.Common.{◌≡◌, ℕ, ◌≤◌, Bool, true, false, cond, List, [], ◌∷◌, ◌++◌, length, Option, Some, None, refl, sym, arith, subst, length-append}
use Rattle.std.specs.Prelude.{◌==◌, nat_le, unwrap_or}
use Rattle.std.specs.List.{AllByRecursion, count_by}
use Rattle.std.proofs.lemmas.Bool.{false≢true, leb-false, or_parts}
use Rattle.std.proofs.lemmas.List.Sums.{sum_by-append}
use Rattle.sec_ast.specs.PrintOperators.{operator_text}
use Rattle.sec_ast.specs.PrintTargets.{targets_text}
use Rattle.sec_ast.specs.declared.action.Disrupt.{Disrupt}
use Rattle.sec_ast.specs.declared.action.Disrupt.TheVariants as disrupts
use Rattle.sec_ast.specs.declared.link.Link.{Link}
use Rattle.sec_ast.specs.declared.listing.Item.{Item}
use Rattle.sec_ast.specs.declared.listing.Item.TheVariants as items
use Rattle.sec_ast.specs.declared.rule.Rule.{Rule}
use Rattle.sec_parts.specs.declared.acts.Acts.{Acts}
use Rattle.sec_read.specs.declared.defaults.Defaults.{Defaults}
use Rattle.sec_read.specs.declared.defaults.PhaseDefault.{PhaseDefault}
use Rattle.sec_read.specs.declared.links.Condition.{Condition}
use Rattle.sec_read.specs.declared.reading.Reading.{Reading}
use Rattle.sec_read.specs.declared.reading.Unfinished.{Unfinished}
use Rattle.sec_read.specs.declared.settings.Settings.{Settings}
use Rattle.sec_read.specs.Defaults.{default_at, default_of, first_default, first_defaults, with_default}
use Rattle.sec_read.specs.Items.{has_id, is_full, is_rule, is_rule_with}
use Rattle.sec_read.specs.Links.{first_link, further_link, link_of, linked, phase_of, rule_of, with_rule}
use Rattle.sec_round_trip.specs.Actions.{IsNumber}
use Rattle.sec_round_trip.specs.Printable.{AreApart, IsCondition}
use Rattle.sec_round_trip.proofs.ActionReads.{GoodCtl, GoodDisrupt, GoodDisrupts, GoodLabels, GoodMacro, GoodSetVar, IsSaid, Within}
use Rattle.sec_parts.proofs.Given.{Given, all_push, given_if}
use Rattle.sec_round_trip.proofs.Identifiers.{counted, none_push, other_id}
use Rattle.sec_round_trip.proofs.Sound.{IsSound}

-- ---- links and rules

pub record GoodLink (link : Link) : Type 0 where
  pub condition : IsCondition link.always link
  pub targets : IsSound (targets_text link.targets)
  pub operator : IsSound (operator_text link.negated link.op)
  pub setvars : AllByRecursion GoodSetVar link.setvars
  pub ctls : AllByRecursion GoodCtl link.ctls

pub record GoodRule (rule : Rule) : Type 0 where
  pub id : Within 1 999999999 (Some rule.id)
  pub phase : Within 1 5 (Some rule.phase)
  pub disrupt : GoodDisrupt rule.disrupt
  pub status : IsNumber 100 999 rule.status
  pub msg : GoodMacro rule.msg
  pub logdata : GoodMacro rule.logdata
  pub tags : AllByRecursion IsSound rule.tags
  pub skip : IsNumber 1 20000 rule.skip
  pub label : GoodLabels rule.skip_after
  pub links : AllByRecursion GoodLink rule.links
  pub some : 1 ≤ length rule.links
  pub few : length rule.links ≤ 32

abbrev pub GoodItem : Item → Type 0
GoodItem (items.Rule rule) = GoodRule rule
GoodItem (items.Marker label) = IsSound label

abbrev pub GoodDefault : PhaseDefault → Type 0
GoodDefault default = GoodDisrupt default.disrupt × IsNumber 100 999 default.status

pub record GoodDefaults (defaults : Defaults) : Type 0 where
  pub one : GoodDefault defaults.request_headers
  pub two : GoodDefault defaults.request_body
  pub three : GoodDefault defaults.response_headers
  pub four : GoodDefault defaults.response_body
  pub five : GoodDefault defaults.logging

-- an unfinished rule is a new one
abbrev pub GoodUnfinished : List Item → Option Unfinished → Type 0
GoodUnfinished list None = Unit {0}
GoodUnfinished list (Some begun) = GoodRule begun.rule × (has_id begun.rule.id list ≡ false) × (is_full list ≡ false)

pub record GoodState (list : List Item) (unfinished : Option Unfinished) (defaults : Defaults) (settings : Settings) : Type 0 where
  pub items : AllByRecursion GoodItem list
  pub apart : AreApart list
  pub few : count_by is_rule list ≤ 20000
  pub begun : GoodUnfinished list unfinished
  pub by_phase : GoodDefaults defaults
  pub limit : Within 1 1073741824 (Some settings.request_limit)

abbrev pub GoodReading : Reading → Type 0
GoodReading reading = GoodState reading.items reading.unfinished reading.defaults reading.settings

-- ---- a rule more

apart_rule : (list : List Item) (rule : Rule) → AreApart list → has_id rule.id list ≡ false → AreApart (list ++ items.Rule rule ∷ [])
apart_rule [] rule apart none = (refl, tt)
apart_rule (items.Rule x ∷ list) rule apart none =
    let parts = or_parts (is_rule_with rule.id (items.Rule x)) (has_id rule.id list) none in
    (none_push x.id list (items.Rule rule) apart.0 (other_id x.id rule.id parts.0), apart_rule list rule apart.1 parts.1)
apart_rule (items.Marker label ∷ list) rule apart none = apart_rule list rule apart none

apart_marker : (list : List Item) (label : List ℕ) → AreApart list → AreApart (list ++ items.Marker label ∷ [])
apart_marker [] label apart = tt
apart_marker (items.Rule x ∷ list) label apart = (none_push x.id list (items.Marker label) apart.0 refl, apart_marker list label apart.1)
apart_marker (items.Marker other ∷ list) label apart = apart_marker list label apart

few_rule : (list : List Item) (rule : Rule) → is_full list ≡ false → count_by is_rule (list ++ items.Rule rule ∷ []) ≤ 20000
few_rule list rule room =
    let pushed = sum_by-append counted list (items.Rule rule ∷ []) in
    let less = leb-false 20000 (count_by is_rule list) room in
    omega (arith, pushed, less)

few_marker : (list : List Item) (label : List ℕ) → count_by is_rule list ≤ 20000 → count_by is_rule (list ++ items.Marker label ∷ []) ≤ 20000
few_marker list label few =
    let pushed = sum_by-append counted list (items.Marker label ∷ []) in
    omega (arith, pushed, few)

pub marker_good : (label : List ℕ) (reading : Reading) → IsSound label → reading.unfinished ≡ None → GoodReading reading → GoodReading (record reading { items = reading.items ++ items.Marker label ∷ [] })
marker_good label reading is none good = record {
  items = all_push GoodItem reading.items (items.Marker label) good.items is;
  apart = apart_marker reading.items label good.apart;
  few = few_marker reading.items label good.few;
  begun = subst (GoodUnfinished (reading.items ++ items.Marker label ∷ [])) (sym none) tt;
  by_phase = good.by_phase;
  limit = good.limit;
}

rule_good : (chain : Bool) (line : ℕ) (rule : Rule) (reading : Reading) → GoodRule rule → has_id rule.id reading.items ≡ false → is_full reading.items ≡ false → GoodReading reading → GoodReading (with_rule chain line rule reading)
rule_good true line rule reading is fresh room good = record {
  items = good.items;
  apart = good.apart;
  few = good.few;
  begun = (is, fresh, room);
  by_phase = good.by_phase;
  limit = good.limit;
}
rule_good false line rule reading is fresh room good = record {
  items = all_push GoodItem reading.items (items.Rule rule) good.items is;
  apart = apart_rule reading.items rule good.apart fresh;
  few = few_rule reading.items rule room;
  begun = tt;
  by_phase = good.by_phase;
  limit = good.limit;
}

-- ---- a link more

-- what a link tests, whatever its actions are
pub record GoodCondition (condition : Condition) : Type 0 where
  pub tested : (acts : Acts) → IsCondition condition.always (link_of condition acts)
  pub targets : IsSound (targets_text condition.targets)
  pub operator : IsSound (operator_text condition.negated condition.op)

link_good : (condition : Condition) (acts : Acts) → GoodCondition condition → IsSaid acts → GoodLink (link_of condition acts)
link_good condition acts is so = record { condition = is.tested acts; targets = is.targets; operator = is.operator; setvars = so.setvars; ctls = so.ctls }

phase_good : (o : Option ℕ) → Within 1 5 o → Within 1 5 (Some (unwrap_or o 2))
phase_good None h = (omega arith, omega arith)
phase_good (Some n) h = h

disrupt_good : (o : Option Disrupt) (default : Disrupt) → GoodDisrupts o → GoodDisrupt default → GoodDisrupt (unwrap_or o default)
disrupt_good None default a b = b
disrupt_good (Some disrupt) default a b = a

status_good : (o : Option ℕ) (default : ℕ) → Within 100 999 o → IsNumber 100 999 default → IsNumber 100 999 (unwrap_or o default)
status_good None default a b = b
status_good (Some n) default a b = λ h. a

pub default_good : (phase : ℕ) (defaults : Defaults) → GoodDefaults defaults → GoodDefault (default_at phase defaults)
unfolding default_at
default_good phase defaults is =
    either (phase == 1) defaults.request_headers _ is.one (either (phase == 2) defaults.request_body _ is.two (either (phase == 3) defaults.response_headers _ is.three (either (phase == 4) defaults.response_body defaults.logging is.four is.five)))
  where
    either : (p : Bool) (x y : PhaseDefault) → GoodDefault x → GoodDefault y → GoodDefault (cond p x y)
    either true x y a b = a
    either false x y a b = b

made_good : (file : List ℕ) (line id : ℕ) (condition : Condition) (acts : Acts) (default : PhaseDefault) → Within 1 999999999 (Some id) → GoodCondition condition → IsSaid acts → GoodDefault default → GoodRule (rule_of file line id condition acts default)
made_good file line id condition acts default known is so by_default = record {
  id = known;
  phase = phase_good acts.phase so.phase;
  disrupt = disrupt_good acts.disrupt default.disrupt so.disrupt by_default.0;
  status = status_good acts.status default.status so.status by_default.1;
  msg = so.msg;
  logdata = so.logdata;
  tags = so.tags;
  skip = so.skip;
  label = so.label;
  links = (link_good condition acts is so, tt);
  some = omega arith;
  few = omega arith;
}

first_good : (file : List ℕ) (line : ℕ) (condition : Condition) (id : Option ℕ) (acts : Acts) (reading : Reading) → Within 1 999999999 id → GoodCondition condition → IsSaid acts → GoodReading reading → Given GoodReading (first_link file line condition id acts reading)
first_good file line condition None acts reading known is so good = tt
first_good file line condition (Some id) acts reading known is so good =
    given_if GoodReading (has_id id reading.items) _ _ (λ h. tt)
    (λ fresh. given_if GoodReading (is_full reading.items) _ _ (λ h. tt)
    (λ room. rule_good acts.chain line (rule_of file line id condition acts (default_at (phase_of acts) reading.defaults)) reading (made_good file line id condition acts (default_at (phase_of acts) reading.defaults) known is so (default_good (phase_of acts) reading.defaults good.by_phase)) fresh room good))

longer_good : (rule : Rule) (link : Link) → GoodRule rule → GoodLink link → nat_le 32 (length rule.links) ≡ false → GoodRule (record rule { links = rule.links ++ link ∷ [] })
longer_good rule link is next room =
    let less = leb-false 32 (length rule.links) room in
    let pushed = length-append rule.links (link ∷ []) in
    record {
      id = is.id;
      phase = is.phase;
      disrupt = is.disrupt;
      status = is.status;
      msg = is.msg;
      logdata = is.logdata;
      tags = is.tags;
      skip = is.skip;
      label = is.label;
      links = all_push GoodLink rule.links link is.links next;
      some = omega (arith, pushed);
      few = omega (arith, pushed, less);
    }

further_good : (file : List ℕ) (line : ℕ) (condition : Condition) (acts : Acts) (rule : Rule) (reading : Reading) → GoodRule rule → has_id rule.id reading.items ≡ false → is_full reading.items ≡ false → GoodCondition condition → IsSaid acts → GoodReading reading
    → Given GoodReading (further_link file line condition acts rule reading)
further_good file line condition acts rule reading begun fresh room is so good =
    given_if GoodReading (nat_le 32 (length rule.links)) _ _ (λ h. tt)
    (λ few. rule_good acts.chain line (record rule { links = rule.links ++ link_of condition acts ∷ [] }) reading (longer_good rule (link_of condition acts) begun (link_good condition acts is so) few) fresh room good)

pub linked_good : (file : List ℕ) (line : ℕ) (condition : Condition) (acts : Acts) (o : Option Unfinished) (reading : Reading) → GoodUnfinished reading.items o → GoodCondition condition → IsSaid acts → GoodReading reading → Given GoodReading (linked file line condition acts o reading)
linked_good file line condition acts None reading begun is so good = first_good file line condition acts.id acts reading so.id is so good
linked_good file line condition acts (Some u) reading begun is so good = further_good file line condition acts u.rule reading begun.0 begun.1 begun.2 is so good

-- ---- defaults

of_good : (acts : Acts) → IsSaid acts → GoodDefault (default_of acts)
of_good acts so = (disrupt_good acts.disrupt disrupts.Pass so.disrupt tt, status_good acts.status 0 so.status (λ h. absurd (false≢true (sym h))))

pub with_default_good : (phase : ℕ) (acts : Acts) (defaults : Defaults) → IsSaid acts → GoodDefaults defaults → GoodDefaults (with_default phase (default_of acts) defaults)
unfolding with_default
with_default_good phase acts defaults so is =
    let d : GoodDefault (default_of acts) = of_good acts so in
    either (phase == 1) _ _ (record { one = d; two = is.two; three = is.three; four = is.four; five = is.five })
    (either (phase == 2) _ _ (record { one = is.one; two = d; three = is.three; four = is.four; five = is.five })
    (either (phase == 3) _ _ (record { one = is.one; two = is.two; three = d; four = is.four; five = is.five })
    (either (phase == 4) _ _ (record { one = is.one; two = is.two; three = is.three; four = d; five = is.five })
    (record { one = is.one; two = is.two; three = is.three; four = is.four; five = d }))))
  where
    either : (p : Bool) (x y : Defaults) → GoodDefaults x → GoodDefaults y → GoodDefaults (cond p x y)
    either true x y a b = a
    either false x y a b = b

nothing_default : GoodDefault first_default
nothing_default = (tt, λ h. absurd (false≢true (sym h)))

pub first_defaults_good : GoodDefaults first_defaults
first_defaults_good = record { one = nothing_default; two = nothing_default; three = nothing_default; four = nothing_default; five = nothing_default }
