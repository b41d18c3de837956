-- A node stands for what each node stands for that it covers.
use Rattle.std.proofs.Common.{◌∙◌, sym}
use Rattle.law_bounds.specs.Bounds.{NodesAreKept}
use Rattle.law_bounds.specs.Nodes.{Covers, IsAfter, IsFirst, Node, Setting, labels_at_boot}
use Rattle.law_bounds.proofs.Ordered.{at_least_joined}

first_kept : (s : Setting) (x y : Node) → IsFirst s x → Covers y x → IsFirst s y
first_kept s x y first covers = record {
  key = first.key ∙ sym covers.key;
  over = first.over ∙ sym covers.over;
  labels = at_least_joined y.labels x.labels (labels_at_boot s) covers.labels first.labels;
}

pub nodes_are_kept : NodesAreKept
nodes_are_kept s = record {
  first = first_kept s;
  next = λ x y z set next covers o stands.
      let is : IsAfter s x set y o = next o stands in
      record {
        key = is.key ∙ sym covers.key;
        over = is.over ∙ sym covers.over;
        labels = at_least_joined z.labels y.labels _ covers.labels is.labels;
      };
  joined = λ x y z one other. record {
    key = one.key ∙ other.key;
    over = one.over ∙ other.over;
    labels = at_least_joined x.labels y.labels z.labels one.labels other.labels;
  };
}
