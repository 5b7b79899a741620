-- What the build rule needs of an unfinished record and keeps, move by move. A sound record is firm; a firm one need not be sound.
use Rattle.std.specs.Prelude.{ℕ, ◌+◌, ◌≤◌, ◌<◌, ◌≡◌, length}
use Rattle.layout.specs.declared.Shape.{Shape}
use Rattle.layout.specs.Layout.{node_size}
use Rattle.record.specs.declared.Branch.{Branch}
use Rattle.record.specs.declared.History.{History}
use Rattle.record.specs.Levels.{place_at, start_at, intervals_at, children_at, last_end_at}
use Rattle.record.specs.Sound.{last_time}

-- what an allowed shape gives
pub record Shaped (s : Shape) : Type 0 where
  pub some : 1 ≤ s.k
  pub two : 2 ≤ s.c
  pub fifty : s.c ≤ 50
  pub small : s.k ≤ 2047
  pub size : node_size s ≤ 65536
  pub nodes : s.n ≤ 65536

pub record Firm (h : History) : Type 0 where
  pub shaped : Shaped h.shape
  pub used : h.used ≤ h.shape.n
  pub ordered : h.low ≤ h.top
  pub top : h.top ≤ 15
  pub placed : (l : ℕ) → h.low ≤ l → l ≤ h.top → place_at h.branch l < h.used
  pub intervals : (l : ℕ) → h.low ≤ l → l ≤ h.top → intervals_at h.branch l ≤ h.shape.k
  pub children : (l : ℕ) → h.low ≤ l → l ≤ h.top → children_at h.branch l ≤ h.shape.c
  pub largest : h.largest_end ≤ last_time
  pub last : 0 < h.low → last_end_at h.branch h.low ≤ last_time

-- ═══ What a sound record gives, as plain facts ═══

pub record Numbered (h : History) : Type 0 where
  pub attributes : h.attributes ≤ 4096
  pub latest : h.latest ≤ last_time
  pub begun : h.start ≤ h.latest
  pub from : h.start ≤ h.largest_end
  pub to : h.largest_end ≤ h.latest
  pub top : h.top ≤ 15
  pub some : 1 ≤ h.used
  pub room : h.used ≤ h.shape.n

-- an open level by itself, and its place against those above it
pub record OpenLevel (h : History) (l : ℕ) : Type 0 where
  pub intervals : intervals_at h.branch l ≤ h.shape.k
  pub children : children_at h.branch l ≤ h.shape.c
  pub placed : place_at h.branch l < h.used
  pub parent : 0 < l → 1 ≤ children_at h.branch l
  pub apart : (m : ℕ) → l < m → m ≤ h.top → place_at h.branch m ≡ place_at h.branch l → ⊥

-- the open branch, until finish
pub record Unfinished (h : History) : Type 0 where
  pub ordered : h.low ≤ h.top
  pub root : start_at h.branch h.top ≡ h.start
  pub last : 0 < h.low → (h.start ≤ last_end_at h.branch h.low) × (last_end_at h.branch h.low ≤ h.latest)
  pub falls : (l : ℕ) → h.low ≤ l → l < h.top → start_at h.branch (l + 1) ≤ start_at h.branch l
  pub levels : (l : ℕ) → h.low ≤ l → l ≤ h.top → OpenLevel h l

-- ═══ What the record's type gives ═══

-- "one entry for each of the sixteen levels"
pub record Long (b : Branch) : Type 0 where
  pub places : length b.places ≡ 16
  pub starts : length b.starts ≡ 16
  pub intervals : length b.intervals ≡ 16
  pub children : length b.children ≡ 16
  pub last_ends : length b.last_ends ≡ 16

-- the entries of a level
pub record LevelIs (b : Branch) (l place start intervals children last_end : ℕ) : Type 0 where
  pub at_place : place_at b l ≡ place
  pub at_start : start_at b l ≡ start
  pub at_intervals : intervals_at b l ≡ intervals
  pub at_children : children_at b l ≡ children
  pub at_last_end : last_end_at b l ≡ last_end

-- a level is as it was
abbrev pub SameLevel : Branch → Branch → ℕ → Type 0
SameLevel a b l = LevelIs a l (place_at b l) (start_at b l) (intervals_at b l) (children_at b l) (last_end_at b l)
