-- Going over settings that stand together.
use Rattle.std.proofs.Common.{◌≡◌, ℕ, ◌+◌, ◌<◌, List, [], ◌∷◌, ◌++◌, length, take, drop, get_or, Option, Some, None, refl, sym, ap, ◌∙◌}
use Rattle.std.proofs.lemmas.List.{drop_more, take_more, map_push}
use Rattle.oil_reader.specs.declared.fault.OilFault.{OilFault}
use Rattle.oil_reader.specs.declared.syntax.Setting as code_setting
use Rattle.oil_reader.specs.declared.table.AttributeName.{AttributeName}
use Rattle.oil_reader.specs.Grammar.{Setting}
use Rattle.oil_reader.specs.Order.{first_of_all, earlier}
use Rattle.oil_reader.specs.Checks.{setting_faults, settings_faults, lacking_faults, scope_faults}
use Rattle.oil_reader.specs.Trees.{setting_of, settings_of}

pub first_of_both : (e : Option OilFault) (a b : List OilFault) → first_of_all e (a ++ b) ≡ first_of_all (first_of_all e a) b
first_of_both e [] b = refl
first_of_both e (g ∷ a) b = first_of_both (Some (earlier e g)) a b

-- one more setting
pub setting_more : (allowed : List AttributeName) (xs : List code_setting.Setting) (i : ℕ) (d : code_setting.Setting) (found next whole : Option OilFault) → i < length xs → d ≡ get_or xs i d
    → next ≡ first_of_all found (setting_faults allowed (settings_of (take i xs)) (setting_of d))
    → first_of_all found (settings_faults allowed (settings_of (take i xs)) (settings_of (drop i xs))) ≡ whole
    → first_of_all next (settings_faults allowed (settings_of (take (i + 1) xs)) (settings_of (drop (i + 1) xs))) ≡ whole
setting_more allowed xs i d found next whole inside is step_at so_far =
    let x = setting_of (get_or xs i d) in
    let step : next ≡ first_of_all found (setting_faults allowed (settings_of (take i xs)) (setting_of (get_or xs i d))) =
    step_at ∙ ap (λ (y : code_setting.Setting). first_of_all found (setting_faults allowed (settings_of (take i xs)) (setting_of y))) is in
    let before = settings_of (take i xs) in
    let after = settings_of (drop (i + 1) xs) in
    let taken : settings_of (take (i + 1) xs) ≡ before ++ x ∷ [] = ap settings_of (take_more xs i d inside) ∙ map_push setting_of (take i xs) (get_or xs i d) in
    let dropped : settings_of (drop i xs) ≡ x ∷ after = ap settings_of (drop_more xs i d inside) in
    let now : first_of_all found (setting_faults allowed before x ++ settings_faults allowed (before ++ x ∷ []) after) ≡ whole =
    ap (λ (us : List Setting). first_of_all found (settings_faults allowed before us)) (sym dropped) ∙ so_far in
    ap (λ (us : List Setting). first_of_all next (settings_faults allowed us after)) taken
    ∙ ap (λ (o : Option OilFault). first_of_all o (settings_faults allowed (before ++ x ∷ []) after)) step
    ∙ sym (first_of_both found (setting_faults allowed before x) (settings_faults allowed (before ++ x ∷ []) after)) ∙ now

-- all settings were gone over
pub settings_end : (allowed : List AttributeName) (xs : List code_setting.Setting) (close : ℕ) (found : Option OilFault) → found ≡ first_of_all None (settings_faults allowed [] (settings_of xs))
    → first_of_all found (lacking_faults allowed (settings_of xs) close) ≡ first_of_all None (scope_faults allowed (settings_of xs) close)
settings_end allowed xs close found e =
    ap (λ (o : Option OilFault). first_of_all o (lacking_faults allowed (settings_of xs) close)) e
    ∙ sym (first_of_both None (settings_faults allowed [] (settings_of xs)) (lacking_faults allowed (settings_of xs) close))
