use Rattle.std.proofs.Common.{◌-◌, ◌∙◌, ap, codes}
use Rattle.workload.specs.declared.commands.TheConstants.{CONNECTIONS}
use Rattle.agent_main.specs.declared.generate.TheConstants.{PASSED_RULE, REQUEST_RULE, RESPONSE_RULE}
use Rattle.agent_main.specs.Summary.{count_line, expired_in, logged_in, sum_of, summary, written_in}
use Rattle.agent_main.proofs.Joined.{line_more, six}
use Rattle.agent_main.proofs.summary.summary.Goals as goal

pub returns : goal.returns
unfolding summary
returns c =
    let count = c.args.count in
    let entries = c.args.entries.now in
    let not_parked = c.saturating_sub-not_parked.ensures ∙ (λ i. c.from-count.ensures i - c.logged.ensures i) in
    let acks = c.saturating_sub-acks.ensures ∙ ap (λ n. n - CONNECTIONS) c.written.ensures in
    six _ _ _ _ _ _ _ (count_line (codes "transactions") count) (count_line (codes "requests denied") (sum_of (logged_in REQUEST_RULE) entries)) (count_line (codes "responses denied") (sum_of (logged_in RESPONSE_RULE) entries))
    (count_line (codes "not parked") (count - sum_of (logged_in PASSED_RULE) entries)) (count_line (codes "expired") (sum_of expired_in entries)) (count_line (codes "acks") (sum_of written_in entries - CONNECTIONS)) c.new-text.ensures
    (line_more _ _ (codes "transactions") _ _ c.in_ok-add_count.ensures c.from-count.ensures)
    (line_more _ _ (codes "requests denied") _ _ c.in_ok-add_count-2.ensures c.logged-2.ensures)
    (line_more _ _ (codes "responses denied") _ _ c.in_ok-add_count-3.ensures c.logged-3.ensures)
    (line_more _ _ (codes "not parked") _ _ c.in_ok-add_count-4.ensures not_parked)
    (line_more _ _ (codes "expired") _ _ c.in_ok-add_count-5.ensures c.expired.ensures)
    (line_more _ _ (codes "acks") _ _ c.in_ok-add_count-6.ensures acks)
