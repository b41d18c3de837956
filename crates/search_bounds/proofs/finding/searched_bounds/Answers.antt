use Rattle.std.proofs.Common.{◌≡◌, ◌∙◌, ap}
use Rattle.search_needs.specs.Table.{need_of}
use Rattle.search_nodes.specs.declared.found.Bounds.{Bounds}
use Rattle.law_bounds.specs.Nodes.{Setting}
use Rattle.search_bounds.proofs.Deciding.{all_are_searched}
use Rattle.search_bounds.proofs.Fallible.{if_ok}
use Rattle.search_bounds.proofs.finding.searched_bounds.Goals as goal

pub new-requires : goal.new-requires
new-requires g c =
    record {
      proper = c.shows_proper.ensures;
      suffices = c.in_ok-needs.ensures.closed;
      own = c.in_ok-needs.ensures.within.words;
    }

pub returns-clause-searched : goal.returns-clause-searched
returns-clause-searched g c =
    let made = c.in_ok-explorer.ensures in
    all_are_searched (record { system = c.args.system.now; needs = c.in_ok-needs.needs })
    c.args.mode c.args.rules.now c.args.extent
    c.in_ok-explorer.explorer c.search-searched.new.steps c.search-searched.result
    c.into_bounds.result
    (record {
      proper = c.shows_proper.ensures;
      suffices = c.in_ok-needs.ensures.closed;
      own = c.in_ok-needs.ensures.within.words;
    })
    c.search-searched.ensures.setting
    (λ i. record {
      system = made.system i;
      mode = made.mode i;
      need = need_of (made.needs i);
      rules = made.rules i;
      cap = made.cap i;
    })
    c.search-searched.ensures.outcome c.into_bounds.ensures.outcome c.into_bounds.ensures.peaks
    c.into_bounds.ensures.cap

pub returns-clause-cap : goal.returns-clause-cap
returns-clause-cap g c =
    let f = c.search-searched.new.steps in
    if_ok (λ (b : Bounds). b.cap ≡ f.cap) (λ (b : Bounds). b.cap ≡ c.args.extent.cap)
    c.into_bounds.result
    (λ b same. same ∙ ap (λ (s : Setting). s.cap) c.search-searched.ensures.setting
    ∙ c.in_ok-explorer.ensures.cap)
    c.into_bounds.ensures.cap
