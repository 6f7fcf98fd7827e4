-- What holds while clusters are searched: before and after each cluster, and within one. Assumes nothing.
use Rattle.std.specs.Prelude.{◌≡◌, Bool, not, List, Option, None, Some, is_some, IfSome, ◌⊎◌, ℕ, ◌+◌, ◌≤◌, ◌<◌, T, ltb, length, get_or, set}
use Rattle.prelude.specs.Sums.{many}
use Rattle.cnf.specs.Cnf.{Assignment}
use Rattle.formula.specs.Formula.{X}
use Rattle.network.specs.Value.{terminals_most}
use Rattle.clusters.specs.Chain.{chain_label}
use Rattle.clusters.specs.declared.Search.{Search}

-- the label of a terminal, if it has one; whether it is visited, which is whether it has one; the terminal at a place of the queue
abbrev pub label_at : List (Option ℕ) → ℕ → Option ℕ
label_at l i = get_or l i None

abbrev pub visited_at : List (Option ℕ) → ℕ → Bool
visited_at l i = is_some (label_at l i)

abbrev pub queue_at : Search → ℕ → ℕ
queue_at s p = get_or s.queue p 0

-- a terminal is visited: it has the start for its label, and enters the queue
unfoldable pub entered : ℕ → ℕ → Search → Search
entered start j s =
    record {
      labels = set s.labels j (Some start);
      queue = set s.queue s.tail j;
      tail = s.tail + 1;
    }

module _ (N : ℕ) (α : Assignment) where
  -- what a terminal has for its label: none, or it is one of N terminals and has the label of its chains
  abbrev pub Named : ℕ → Option ℕ → Type 0
  Named i label = IfSome label (λ l. (i < N) × (l ≡ chain_label N α i))

  -- each terminal that is visited is one of N, and has its label
  pub record Agree (labels : List (Option ℕ)) : Type 0 where
    pub long : length labels ≡ terminals_most
    pub named : (i : ℕ) → i < terminals_most → Named i (label_at labels i)

  -- between two searches: of N terminals those with a label below start are visited, and no others
  pub record Labelled (start : ℕ) (labels : List (Option ℕ)) : Type 0 where
    pub agree : Agree labels
    pub marked : (i : ℕ) → i < N → visited_at labels i ≡ ltb (chain_label N α i) start

  -- how many of N terminals are not visited
  abbrev pub unvisited : List (Option ℕ) → ℕ
  unvisited labels = many N (λ i. not (visited_at labels i))

  -- within the search from start: the terminals with a label below start are visited, those in the queue have the label start, and no
  -- others are visited; with those that are not, the queue's are at most N
  pub record Searching (start : ℕ) (s : Search) : Type 0 where
    pub agree : Agree s.labels
    pub queue_long : length s.queue ≡ terminals_most
    pub earlier : (i : ℕ) → i < N → chain_label N α i < start → T (visited_at s.labels i)
    pub reached : (i : ℕ) → i < N → T (visited_at s.labels i) → (chain_label N α i < start) ⊎ ((p : ℕ) × (p < s.tail) × (queue_at s p ≡ i))
    pub queued : (p : ℕ) → p < s.tail → (queue_at s p < N) × (chain_label N α (queue_at s p) ≡ start)
    pub room : s.tail + unvisited s.labels ≤ N

  -- a search gone further from s: what is visited stays so, what is in the queue stays there, and of the first count terminals those
  -- that a true X joins to node are visited
  pub record Further (start node : ℕ) (before s : Search) (count : ℕ) : Type 0 where
    pub searching : Searching start s
    pub visited_stays : (i : ℕ) → T (visited_at before.labels i) → T (visited_at s.labels i)
    pub queue_stays : (p : ℕ) → p < before.tail → queue_at s p ≡ queue_at before p
    pub tail_grows : before.tail ≤ s.tail
    pub neighbours : (j : ℕ) → j < count → T (α (X N node j)) → T (visited_at s.labels j)

  -- the first head terminals of the queue have left it: all that a true X joins to them is visited
  pub record Left (start : ℕ) (s : Search) (head : ℕ) : Type 0 where
    pub searching : Searching start s
    pub within : head ≤ s.tail
    pub opened : T (visited_at s.labels start)
    pub done : (p : ℕ) → p < head → (j : ℕ) → j < N → T (α (X N (queue_at s p) j)) → T (visited_at s.labels j)
