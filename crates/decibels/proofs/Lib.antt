mod Powers
mod LeastPowers
mod LevelFound
