pub mod PairsInverse
