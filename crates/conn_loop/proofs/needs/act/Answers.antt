use Rattle.conn_loop.proofs.needs.act.Goals as goal

pub look-requires : goal.look-requires
look-requires g c =
    let s = c.requires.stands in
    let need = c.in-Look in
    record { at = need.ensures.at s.0 s.1; asks = record { kind = need.ensures.kind; state = s.0; stands = s.1; hold = need.ensures.holds; held = c.requires.held }; ready = c.requires.ready }

pub enter-requires : goal.enter-requires
enter-requires g c =
    let s = c.requires.stands in
    let need = c.in-Enter in
    record { at = need.ensures.at s.0 s.1; asks = record { kind = need.ensures.kind; state = s.0; stands = s.1; hold = need.ensures.holds; held = c.requires.held }; ready = c.requires.ready }

pub begin-requires : goal.begin-requires
begin-requires g c =
    let s = c.requires.stands in
    let need = c.in-Begin in
    record { at = need.ensures.at s.0 s.1; asks = record { kind = need.ensures.kind; state = s.0; stands = s.1; hold = need.ensures.holds; held = c.requires.held }; ready = c.requires.ready }

pub park-requires : goal.park-requires
park-requires g c =
    let s = c.requires.stands in
    let need = c.in-Park in
    record { at = need.ensures.at s.0 s.1; asks = record { kind = need.ensures.kind; state = s.0; stands = s.1; hold = need.ensures.holds; held = c.requires.held }; ready = c.requires.ready }

pub leave-requires : goal.leave-requires
leave-requires g c =
    let s = c.requires.stands in
    let need = c.in-Leave in
    record { at = need.ensures.at s.0 s.1; asks = record { kind = need.ensures.kind; state = s.0; stands = s.1; hold = need.ensures.holds; held = c.requires.held }; ready = c.requires.ready }

pub retire-requires : goal.retire-requires
retire-requires g c =
    let s = c.requires.stands in
    let need = c.in-Retire in
    record { at = need.ensures.at s.0 s.1; asks = record { kind = need.ensures.kind; state = s.0; stands = s.1; hold = need.ensures.holds; held = c.requires.held }; ready = c.requires.ready }

pub resume-requires : goal.resume-requires
resume-requires g c =
    let s = c.requires.stands in
    let need = c.in-Resume in
    record { at = need.ensures.at s.0 s.1; asks = record { kind = need.ensures.kind; state = s.0; stands = s.1; hold = need.ensures.holds; held = c.requires.held }; ready = c.requires.ready }

pub finish-requires : goal.finish-requires
finish-requires g c =
    let s = c.requires.stands in
    let need = c.in-Finish in
    record { at = need.ensures.at s.0 s.1; asks = record { kind = need.ensures.kind; state = s.0; stands = s.1; hold = need.ensures.holds; held = c.requires.held }; ready = c.requires.ready }
