-- A printed text means the file that was printed.
use Rattle.std.proofs.Common.{◌≡◌, ℕ, true, List, sym, ap, ◌∙◌, subst}
use Rattle.oil_reader.specs.Tokens.{IsTokensOf}
use Rattle.oil_reader.specs.Checked.{is_checked, CheckedParts}
use Rattle.oil_reader.specs.Configuration.{Configuration}
use Rattle.oil_reader.specs.Meaning.{configuration_of}
use Rattle.oil_reader.specs.Faults.{Means}
use Rattle.oil_reader.proofs.CheckedParts.{checked_parts}
use Rattle.oil_printer.specs.Printed.{tree_of, printed}
use Rattle.oil_printer.proofs.Parts.{lexes, lexemes_at}
use Rattle.oil_printer.proofs.TreeParts.{file_parts, file_is}
use Rattle.oil_printer.proofs.Spelled.{file_pieces}
use Rattle.oil_printer.proofs.Placed.{reads_file}
use Rattle.oil_printer.proofs.Faultless.{is_file_right, file_sound}
use Rattle.oil_printer.proofs.Bare.{configuration_bare, file_right_bare}
use Rattle.oil_printer.proofs.Back.{configuration_back}
use Rattle.oil_printer.proofs.CheckedFile.{checked_prints, checked_right}

pub parts_mean : (c : Configuration) → CheckedParts c → Means (printed c) c
parts_mean c h =
    let f = tree_of c in
    let r = reads_file f in
    let ts = lexemes_at 0 (file_parts f) in
    let tokens : IsTokensOf (printed c) ts = subst (λ (text : List ℕ). IsTokensOf text ts) (file_is f) (lexes (file_parts f) (file_pieces f (checked_prints c h))) in
    record {
      tree = r.placed;
      is_tree = (ts, tokens, r.is);
      sound = file_sound r.placed (sym (file_right_bare r.placed) ∙ ap is_file_right r.same ∙ file_right_bare f ∙ checked_right c h);
      content = sym (sym (configuration_bare r.placed) ∙ ap configuration_of r.same ∙ configuration_bare f ∙ configuration_back c);
    }

-- of a whole file that was checked
pub printed_means : (c : Configuration) → is_checked c ≡ true → Means (printed c) c
printed_means c h = parts_mean c (checked_parts c h)
